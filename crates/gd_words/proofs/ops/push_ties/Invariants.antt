use Rattle.std.proofs.Common.{◌≡◌, ◌≤◌, ◌+◌, ◌*◌, ◌++◌, length, take}
use Rattle.std.specs.List.{flat_map}
use Rattle.gd_lines.specs.OpText.{tie_text}
use Rattle.gd_words.proofs.ops.push_ties.Given as goal

abbrev pub invariant-loop-tie : goal.invariant-loop-tie
invariant-loop-tie l = record {
  told : l.text ≡ l.fn.text ++ flat_map tie_text (take l.tie-index l.ties);
  few : length l.text ≤ length l.fn.text + 133 * l.tie-index;
}
