use Rattle.std.proofs.Common.{◌≡◌, ◌++◌, drop, length}
use Rattle.gd_canvas.proofs.tied.tie_list.Given as goal

abbrev pub invariant-loop-tie : goal.invariant-loop-tie
invariant-loop-tie l = (l.copied ++ drop l.tie-index l.ties ≡ l.ties) × (length l.copied ≡ l.tie-index)
