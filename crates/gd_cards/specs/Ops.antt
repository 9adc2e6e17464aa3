-- Operations on cards, over what titles are.
use Rattle.std.specs.Prelude.{ℕ, List}
use Rattle.gd_cards.specs.declared.op.CardChange as over
use Rattle.gd_cards.specs.declared.op.Op as sum

abbrev pub CardChange : Type 0
CardChange = over.CardChange (List ℕ)

abbrev pub CardOp : Type 0
CardOp = sum.Op (List ℕ)
