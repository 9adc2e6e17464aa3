use Rattle.std.proofs.Common.{refl, ap, ◌∙◌}
use Rattle.std.specs.Prelude.{[], ◌∷◌, codes}
use Rattle.gd_lines.specs.declared.command.Turn.TheVariants.{Undo}
use Rattle.gd_reference.specs.SlowSite.{SlowSite}
use Rattle.gd_reference.specs.TakeBack.{turn}
use Rattle.gd_rows.proofs.ByDrawing.{drawn_compute}
use Rattle.gd_rows.proofs.Computing.{computing}
use Rattle.gd_rows.proofs.Turned.{each_site, kept_of, shown_of, site-in, turned-at, turned_drawn}
use Rattle.gd_rows.specs.WorkedBacks.{gone_steps, gone_turns}
use Rattle.gd_rows.proofs.back_rows.an_undo_of_what_another_deleted.Goals as goal

pub returns-clause-kept : goal.returns-clause-kept
unfolding computing drawn_compute turned_drawn
returns-clause-kept c = ap kept_of (site-in 1 gone_steps) ∙ refl

pub returns-clause-undo : goal.returns-clause-undo
unfolding computing drawn_compute turned_drawn
returns-clause-undo c = ap (λ (s : SlowSite). turn s Undo) (site-in 1 gone_steps) ∙ refl

pub returns-clause-backs : goal.returns-clause-backs
unfolding computing drawn_compute turned_drawn
returns-clause-backs c =
    each_site gone_turns (λ r. turned-at (site-in 1 gone_steps) r.0) kept_of (λ r. r.1) (refl, (refl, (refl, tt)))

pub returns-clause-shown : goal.returns-clause-shown
unfolding computing drawn_compute turned_drawn
returns-clause-shown c =
    each_site gone_turns (λ r. turned-at (site-in 1 gone_steps) r.0) shown_of (λ r. codes "end 0\n" ∷ [])
    (refl, (refl, (refl, tt)))
