use Rattle.std.proofs.Common.{◌∙◌, ap, Bool}
use Rattle.std.specs.Option.{option_flatten}
use Rattle.indexmap.specs.IndexMap as index_map
use Rattle.gd_base.specs.Stamps.{Stamp}
use Rattle.gd_slots.proofs.SlotLemmas.{same_is}
use Rattle.gd_view.proofs.known.Known.get.Goals as goal

pub returns-in-Some : goal.returns-in-Some
returns-in-Some c = ap option_flatten
    (c.in-Some.ensures.value
    ∙ ap (λ (e : Stamp → Stamp → Bool). index_map.get e c.args.self.now.sums c.args.id) same_is)

pub returns-in-None : goal.returns-in-None
returns-in-None c = ap option_flatten
    (c.in-None.ensures.value
    ∙ ap (λ (e : Stamp → Stamp → Bool). index_map.get e c.args.self.now.sums c.args.id) same_is)
