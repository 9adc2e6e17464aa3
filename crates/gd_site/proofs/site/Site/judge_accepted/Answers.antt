use Rattle.std.proofs.Common.{◌∙◌, ap, refl}
use Rattle.gd_stable.specs.Partings.{parted_at}
use Rattle.gd_site.proofs.Parting.{judged_by, stored_other, stored_site}
use Rattle.gd_site.specs.Foreseen.{foreseen}
use Rattle.gd_site.specs.Sites.{SiteValue}
use Rattle.gd_site.proofs.site.Site.judge_accepted.Goals as goal

pub at-before-requires : goal.at-before-requires
at-before-requires c =
    let none = rw (← c.self.view_is) at c.requires in
    let other = stored_other _ c.self.invariant c.args.frame.now none in
    rw c.head-head.ensures.head (stored_site _ c.self.invariant c.args.frame.now.head.from other)

pub held_of-requires : goal.held_of-requires
held_of-requires c =
    let none = rw (← c.self.view_is) at c.requires in
    rw (← c.self.view_is, c.head-head.ensures.head) (stored_other _ c.self.invariant c.args.frame.now none)

pub returns : goal.returns
returns c =
    let before =
    c.at-before.ensures.count
    ∙ ap (λ (s : SiteValue). parted_at s.parted c.head-head.result.from) c.self.view_is in
    judged_by c.args.self.now c.args.frame.now c.head-head.result c.head-head.ensures.head c.held_of.result
    c.held_of.ensures c.events.result.now c.events.ensures.events (foreseen c.held_of.result c.events.result.now) refl
    c.parts-parts.result c.parts-parts.ensures c.at-before.result before _ c.accepted_verdict.ensures
