-- Which reference site a member stands for, and which of its events the caller's journal has.
use Rattle.std.specs.Prelude.{◌≡◌, List, ◌++◌}
use Rattle.gd_events.specs.Events.{Event}
use Rattle.gd_member.specs.Members.{MemberValue, IsLive}
use Rattle.gd_member.specs.Unwritten.{AreUnwritten}
use Rattle.gd_reference.specs.SlowSite.{SlowSite}
use Rattle.gd_takeback.specs.Standing.{StandsWith}

-- The member stands for this reference site, and isn't spent. Of the events that it holds the journal has the first
-- ones, and the others are kept as the bytes that follow.
pub record Stands (slow : SlowSite) (written : List Event) (m : MemberValue) : Type 0 where
  pub live : IsLive m
  pub stands : StandsWith slow m.site m.backs
  pub others : List Event
  pub held : slow.held ≡ written ++ others
  pub unwritten : AreUnwritten written others m.unwritten

-- it stands for some reference site
abbrev pub IsMet : MemberValue → Type 0
IsMet m = (slow : SlowSite) × (written : List Event) × Stands slow written m
