-- What contracts see of a world in memory, and which world of reference sites it stands for.
use Rattle.std.specs.List.{AllByRecursion}
use Rattle.std.specs.Prelude.{◌≡◌, ℕ, ◌+◌, ◌⊎◌, List, [], length, Some, slice_get}
use Rattle.gd_grammar.specs.FrameBytes.{Frame}
use Rattle.gd_reference.specs.World.{IsSession, IsStep, Step, World, after}
use Rattle.gd_reference.specs.SlowSite.{new_site}
use Rattle.gd_takeback.specs.Standing.{StandsWith}
use Rattle.gd_world.specs.declared.member.Member.{Member}

-- the sites of the session in the order of their numbers, each with what takes its last edits back; and all mail
pub record WorldValue : Type 0 where
  pub members : List Member
  pub mail : List Frame

-- It stands for a world that some steps lead to, all of them in their ranges: each site for that world's, and the mail
-- is the same.
pub record StandsFor (w : World) (v : WorldValue) : Type 0 where
  pub session : IsSession w.sites w.session
  pub steps : List Step
  pub ranged : AllByRecursion IsStep steps
  pub reached : w ≡ after w.sites w.session steps
  pub members : length v.members ≡ w.sites
  pub each : (k : ℕ) (member : Member) → slice_get v.members k ≡ Some member
      → StandsWith (w.at (k + 1)) member.site member.backs
  pub mail : v.mail ≡ w.mail

-- there is a world that it stands for
pub record HasWorld (v : WorldValue) : Type 0 where
  pub world : World
  pub stands : StandsFor world v

-- memory ran out in a call: then there are no sites and no mail any more
pub record IsSpent (v : WorldValue) : Type 0 where
  pub members : v.members ≡ []
  pub mail : v.mail ≡ []

-- what is true of every world in memory
abbrev pub IsKept : WorldValue → Type 0
IsKept v = HasWorld v ⊎ IsSpent v

-- the sites of a new world
pub record AreNew (n session : ℕ) (members : List Member) : Type 0 where
  pub count : length members ≡ n
  pub each : (k : ℕ) (member : Member) → slice_get members k ≡ Some member
      → StandsWith (new_site (k + 1) n session) member.site member.backs
