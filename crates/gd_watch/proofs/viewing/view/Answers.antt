use Rattle.std.proofs.Common.{sym, subst}
use Rattle.gd_effects.proofs.RunEnds.{ends_most, ends_steps, idle_journal, idle_link}
use Rattle.gd_watch.proofs.ViewEnds.{view_ends, view_kind}
use Rattle.gd_watch.specs.Ends.{IsViewEnd}
use Rattle.gd_watch.proofs.viewing.view.Goals as goal

pub returns-clause-ends : goal.returns-clause-ends
returns-clause-ends g c journal link
    = rw c.ended.ensures (view_ends c.run.result c.run.ensures.kinds c.run.ensures.runs journal link)

pub returns-clause-kinds : goal.returns-clause-kinds
returns-clause-kinds g c
    = subst IsViewEnd (sym c.ended.ensures) (view_kind c.run.result c.run.ensures.kinds c.run.ensures.runs)

pub returns-clause-steps : goal.returns-clause-steps
returns-clause-steps g c is_told uncut
    = ends_steps c.ended.result _ (returns-clause-ends g c idle_journal idle_link) is_told uncut

pub returns-clause-most_steps : goal.returns-clause-most_steps
returns-clause-most_steps g c is_told
    = ends_most c.ended.result _ (returns-clause-ends g c idle_journal idle_link) is_told
