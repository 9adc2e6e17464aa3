-- The empty text is a label.
use Rattle.gd_base.proofs.LabelLemmas.{IsLabel-nil}
use Rattle.gd_base.proofs.text.TextDefault.default.Goals as goal

pub invariant_of-result : goal.invariant_of-result
invariant_of-result c = IsLabel-nil
