use Rattle.std.proofs.Common.{◌≡◌, ◌≤◌, ◌+◌, ◌*◌, ◌++◌, length, take}
use Rattle.std.specs.List.{flat_map}
use Rattle.gd_lines.specs.OpText.{member_text}
use Rattle.gd_words.proofs.ops.push_members.Given as goal

abbrev pub invariant-loop-member : goal.invariant-loop-member
invariant-loop-member l = record {
  told : l.text ≡ l.fn.text ++ flat_map member_text (take l.member-index l.members);
  few : length l.text ≤ length l.fn.text + 84 * l.member-index;
}
