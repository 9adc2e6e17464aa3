use Rattle.std.proofs.Common.{Option, subst, sym, ◌∙◌}
use Rattle.std.specs.Prelude.{IfSome}
use Rattle.gd_base.specs.Stamps.{Stamp}
use Rattle.gd_canvas.specs.Groupings.{are_up_to}
use Rattle.gd_canvas.proofs.GroupingLemmas.{all_tied}
use Rattle.gd_canvas.proofs.grouping.Grouping.links_all.Goals as goal

pub returns-in-Some : goal.returns-in-Some
returns-in-Some c =
    let ms = c.self.inside.members in
    let up_to = subst (λ (x : Option Stamp). IfSome x (λ id. are_up_to id ms)) c.in-Some.is c.self.invariant.1 in
    rw (← c.self.view_is) (λ lower. all_tied c.in-Some.highest c.args.stamp ms up_to (sym c.is_before.ensures ∙ lower))
