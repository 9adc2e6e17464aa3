-- Calls on one source, one after another.
use Rattle.std.proofs.Common.{◌++◌, arith}
use Rattle.gd_outside.specs.Called.{SourceCalled}
use Rattle.gd_outside.specs.Seen.{SeenSource}
use Rattle.gd_outside.proofs.ToldLemmas.{hands_out_then}

pub source_called_then : {a b c : SeenSource} {F G : Type 0} → SourceCalled a b F → SourceCalled b c G
    → SourceCalled a c G
source_called_then h k = record {
  taken = h.taken ++ k.taken;
  handed = hands_out_then h.handed k.handed;
  count = omega (arith, h.count, k.count);
  cause = λ failed. omega (arith, h.count, k.cause failed);
}

-- the same where a failure is told in other words
pub source_called_as : {a b : SeenSource} {F G : Type 0} → (G → F) → SourceCalled a b F → SourceCalled a b G
source_called_as f h = record
    { taken = h.taken; handed = h.handed; count = h.count; cause = λ failed. h.cause (f failed) }
