-- The empty text is a title.
use Rattle.gd_base.proofs.LabelLemmas.{IsTitle-nil}
use Rattle.gd_base.proofs.title.TitleDefault.default.Goals as goal

pub invariant_of-result : goal.invariant_of-result
invariant_of-result c = rw c.new.ensures IsTitle-nil
