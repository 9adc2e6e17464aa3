-- What C holds of a member: nothing, or a box of one.
use Rattle.std.specs.Prelude.{◌≡◌, Option, Some, None}
use base.Fml.{Fml, ftrue}
use denote.RawPtr.{Ptr}
use Rattle.std.specs.Box.Ownership.{box_owns}
use Rattle.std.specs.declared.alloc.Global.{Global}
use Rattle.std.specs.contracts.impls.GlobalAllocator.TheImpl.{ghosts}
use Rattle.gd_embed.specs.contracts.held.Held.{the_row}

abbrev pub owned_by : Global → Ptr → Option the_row.Denot → Fml
owned_by a p None = ftrue
owned_by a p (Some x) = box_owns (ghosts.dealloc_token a) the_row p x

-- there is a member
abbrev pub IsLive : Option the_row.Denot → Type 0
IsLive v = (x : the_row.Denot) × (v ≡ Some x)
