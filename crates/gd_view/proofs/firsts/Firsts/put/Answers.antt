use Rattle.std.proofs.Common.{◌∙◌, sym, ap, refl, Bool}
use Rattle.indexmap.specs.IndexMap as index_map
use Rattle.gd_base.specs.Stamps.{Stamp}
use Rattle.gd_view.specs.Walk.{first_in}
use Rattle.gd_slots.proofs.SlotLemmas.{same_is}
use Rattle.gd_view.proofs.WalkLemmas.{put_in_group}
use Rattle.gd_view.proofs.firsts.Firsts.put.Goals as goal

pub returns-in_ok-insert-in-Some-clause-old : goal.returns-in_ok-insert-in-Some-clause-old
returns-in_ok-insert-in-Some-clause-old c =
    c.in_ok-insert-in-Some.ensures.old
    ∙ ap (λ (e : Stamp → Stamp → Bool). index_map.get e c.args.self.now.groups c.in-Some.parent) same_is
    ∙ ap (first_in c.args.self.now) (sym c.in-Some.is)

pub returns-in_ok-insert-in-Some-clause-new : goal.returns-in_ok-insert-in-Some-clause-new
returns-in_ok-insert-in-Some-clause-new c
    = put_in_group c.args.self.now (record { top = c.args.self.now.top; groups = c.insert.new.self }) c.in-Some.parent
    c.args.place c.args.parent refl c.in-Some.is c.in_ok-insert-in-Some.ensures.updates.0
