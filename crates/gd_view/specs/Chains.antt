-- A chain that is followed link by link, with what was summed so far.
use Rattle.std.specs.Prelude.{ℕ, ◌*◌, ◌^◌, pos, neg_ℤ, ◌+ℤ◌, ◌≤ℤ◌, if◌then◌else◌, Option, None, Some}
use Rattle.std.specs.FinMap as map_of
use Rattle.gd_base.specs.Stamps.{stamp_cmp, is_before}
use Rattle.gd_base.specs.Stamps.{Stamp}
use Rattle.gd_base.specs.declared.object.Link.{Link}
use Rattle.gd_base.specs.Whole.{Object}
use Rattle.gd_model.specs.Drawing.{Drawing}
use Rattle.gd_model.specs.declared.above.Above.{Above}

-- the parent of the part of a chain that comes first, or else of the rest
abbrev pub first_parent : Option Stamp → Option Stamp → Option Stamp
first_parent None q = q
first_parent (Some p) q = Some p

-- the parent that a link gives, where its group isn't dissolved
abbrev pub parent_by : Link → Object → Option Stamp
parent_by l g = if g.dissolved then None else Some l.parent

-- the sum with one link more, and this parent
abbrev pub with_link : Above → Option Stamp → Link → Object → Above
with_link s parent l g = record { parent = parent; dx = s.dx +ℤ (l.dx +ℤ g.x); dy = s.dy +ℤ (l.dy +ℤ g.y) }

-- the group that a link leads to, where it is there and has a greater id
abbrev pub group_in : Drawing → Stamp → Link → Option Object
group_in d below l = if is_before below l.parent then map_of.find stamp_cmp l.parent d else None

-- a shift and a place are each within 2^31, so a link adds this at most
abbrev pub link_limit : ℕ
link_limit = 2 ^ 32

-- what is added to stays within this, and so within 64 bits
abbrev pub sum_limit : ℕ
sum_limit = 2 ^ 53

-- the sum of at most n links
pub record Within (n : ℕ) (s : Above) : Type 0 where
  pub left : neg_ℤ (pos (link_limit * n)) ≤ℤ s.dx
  pub right : s.dx ≤ℤ pos (link_limit * n)
  pub up : neg_ℤ (pos (link_limit * n)) ≤ℤ s.dy
  pub down : s.dy ≤ℤ pos (link_limit * n)
