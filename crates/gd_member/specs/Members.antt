-- What contracts see of a member.
use Rattle.std.specs.Prelude.{◌≡◌, Bool, false}
use Rattle.gd_member.specs.Unwritten.{UnwrittenValue}
use Rattle.gd_reference.specs.Backs.{Backs}
use Rattle.gd_site.specs.Sites.{SiteValue}

-- its site, what takes its last gestures back, the events that the caller's journal doesn't have yet, and whether it is
-- spent
pub record MemberValue : Type 0 where
  pub site : SiteValue
  pub backs : Backs
  pub unwritten : UnwrittenValue
  pub spent : Bool

-- it isn't spent
abbrev pub IsLive : MemberValue → Type 0
IsLive m = m.spent ≡ false
