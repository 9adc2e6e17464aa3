use Rattle.std.proofs.Common.{◌∙◌, sym, ap, Bool}
use Rattle.indexmap.specs.IndexMap as index_map
use Rattle.gd_base.specs.Stamps.{Stamp}
use Rattle.gd_view.specs.Walk.{first_in}
use Rattle.gd_slots.proofs.SlotLemmas.{same_is}
use Rattle.gd_view.proofs.firsts.Firsts.get.Goals as goal

pub returns-in-Some : goal.returns-in-Some
returns-in-Some c =
    c.copied.ensures
    ∙ c.get.ensures.value
    ∙ ap (λ (e : Stamp → Stamp → Bool). index_map.get e c.args.self.now.groups c.in-Some.parent) same_is
    ∙ ap (first_in c.args.self.now) (sym c.in-Some.is)
