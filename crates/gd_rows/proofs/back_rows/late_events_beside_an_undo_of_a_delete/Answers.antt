use Rattle.std.proofs.Common.{refl, ap, ◌∙◌}
use Rattle.std.specs.Prelude.{[], ◌∷◌, slice_get}
use Rattle.gd_lines.specs.declared.command.Turn.TheVariants.{Undo, Redo}
use Rattle.gd_reference.specs.SiteEffects.{events_replies}
use Rattle.gd_reference.specs.SlowSite.{SlowSite}
use Rattle.gd_rows.proofs.ByDrawing.{drawn_compute}
use Rattle.gd_rows.proofs.Computing.{computing}
use Rattle.gd_rows.proofs.Turned.{each_site, kept_of, shown_of, site-in, site_in, turn-at, turned-at, turned_drawn}
use Rattle.gd_rows.specs.WorkedBacks.{late_fill, late_move, late_stroke, lost_backs, restored, restored_text, restoring}
use Rattle.gd_rows.specs.WorkedBacks.{site_behind}
use Rattle.gd_rows.proofs.back_rows.late_events_beside_an_undo_of_a_delete.Goals as goal

pub returns-clause-put_back : goal.returns-clause-put_back
unfolding computing drawn_compute turned_drawn
returns-clause-put_back c = ap (λ (s : SlowSite). slice_get s.held 3) (site-in 1 restoring) ∙ refl

pub returns-clause-one : goal.returns-clause-one
unfolding computing drawn_compute turned_drawn
returns-clause-one c =
    ap (λ (s : SlowSite). events_replies s (late_move ∷ late_stroke ∷ late_fill ∷ [])) (site-in 1 restoring) ∙ refl

pub returns-clause-two : goal.returns-clause-two
unfolding computing drawn_compute turned_drawn
returns-clause-two c =
    ap (λ (s : SlowSite). events_replies s (site_behind 1 restoring).held) (site-in 2 restoring)
    ∙ ap (λ (s : SlowSite). events_replies (site_in 2 restoring) s.held) (site-in 1 restoring)
    ∙ refl

pub returns-clause-shown : goal.returns-clause-shown
unfolding computing drawn_compute turned_drawn
returns-clause-shown c =
    each_site (1 ∷ 2 ∷ []) (λ site. site-in site restored) shown_of (λ site. restored_text) (refl, (refl, tt))

pub returns-clause-again : goal.returns-clause-again
unfolding computing drawn_compute turned_drawn
returns-clause-again c = ap kept_of (turn-at (site-in 1 restored) Redo) ∙ refl

pub returns-clause-lost : goal.returns-clause-lost
unfolding computing drawn_compute turned_drawn
returns-clause-lost c =
    each_site lost_backs (λ r. turned-at (site-in 2 restored) r.0) kept_of (λ r. r.1) (refl, (refl, (refl, tt)))

pub returns-clause-lost_shown : goal.returns-clause-lost_shown
unfolding computing drawn_compute turned_drawn
returns-clause-lost_shown c = ap shown_of (turned-at (site-in 2 restored) (Undo ∷ Undo ∷ Undo ∷ [])) ∙ refl
