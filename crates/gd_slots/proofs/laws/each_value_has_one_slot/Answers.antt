use Rattle.gd_slots.proofs.AtLemmas.{one_slot, at_get}
use Rattle.gd_slots.proofs.laws.each_value_has_one_slot.Goals as goal

pub returns-clause-one : goal.returns-clause-one
returns-clause-one g c = one_slot

pub returns-clause-held : goal.returns-clause-held
returns-clause-held g c = at_get
