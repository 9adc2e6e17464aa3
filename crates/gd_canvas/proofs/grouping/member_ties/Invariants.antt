use Rattle.std.proofs.Common.{◌≡◌, ◌≤◌, ◌++◌, drop, length}
use Rattle.gd_model.specs.Forms.{member_ties}
use Rattle.gd_canvas.proofs.grouping.member_ties.Given as goal

abbrev pub invariant-loop-member : goal.invariant-loop-member
invariant-loop-member l =
    (l.ties ++ member_ties l.group (drop l.member-index l.members) ≡ member_ties l.group l.members)
    × (length l.ties ≤ l.member-index)
