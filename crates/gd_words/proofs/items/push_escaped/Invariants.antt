use Rattle.std.proofs.Common.{◌≡◌, ◌≤◌, ◌+◌, ◌*◌, ◌++◌, length, take}
use Rattle.std.specs.List.{flat_map}
use Rattle.gd_lines.specs.Text.{escaped_byte}
use Rattle.gd_words.proofs.items.push_escaped.Given as goal

abbrev pub invariant-loop-byte : goal.invariant-loop-byte
invariant-loop-byte l = record {
  told : l.text ≡ l.fn.text ++ flat_map escaped_byte (take l.byte-index l.byte-items);
  few : length l.text ≤ length l.fn.text + 2 * l.byte-index;
}
