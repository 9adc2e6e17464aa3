-- A site that makes the events of a gesture one after another.
use Rattle.std.specs.Prelude.{◌≡◌, ◌≤◌, ◌+◌, ◌++◌, ◌∷◌, [], ℕ, List, Result, Ok, Err, length}
use Rattle.std.specs.List.{AllByRecursion}
use Rattle.std.specs.declared.alloc.AllocError.{AllocError}
use Rattle.gd_events.specs.Events.{Event}
use Rattle.gd_events.specs.Ops.{Op}
use Rattle.gd_protocol.specs.Sites.{IsBack}
use Rattle.gd_reference.specs.Judging.{greatest_stamp_clock, most_own_events, with_event}
use Rattle.gd_reference.specs.SlowSite.{SlowSite, clock, own}
use Rattle.gd_reference.specs.TakeBack.{back_of, backs_of, done, with_events}
use Rattle.gd_site.specs.Sites.{SiteValue, StandsFor}
use Rattle.gd_takeback.specs.Lists.{GestureValue}

-- a site, and the gesture that it makes
pub record Making : Type 0 where
  pub site : SiteValue
  pub gesture : GestureValue

abbrev pub making : SiteValue → GestureValue → Making
making site gesture = record { site = site; gesture = gesture }

-- from this reference site on the gesture has made these events
pub record HasMade (slow : SlowSite) (es : List Event) (m : Making) : Type 0 where
  pub site : StandsFor (with_events slow es) m.site
  pub events : m.gesture.events ≡ es
  pub back : m.gesture.back ≡ backs_of slow es

-- this event was made
pub record Makes (slow : SlowSite) (e : Event) (old new : Making) : Type 0 where
  pub site : StandsFor (with_event slow e) new.site
  pub events : new.gesture.events ≡ old.gesture.events ++ e ∷ []
  pub back : new.gesture.back ≡ back_of slow e ∷ old.gesture.back

-- these operations may become the next events, one after another
pub record MayBecome (slow : SlowSite) (ops : List Op) : Type 0 where
  pub clocks : clock slow + length ops ≤ greatest_stamp_clock
  pub counts : length (own slow) + length ops ≤ most_own_events
  pub backs : AllByRecursion (IsBack (clock slow)) ops

-- They did, in a gesture of their own, with a step for each. Where memory ran out a front of them did.
abbrev pub DoesAll : SlowSite → List Op → SiteValue → ℕ → ℕ → Result GestureValue AllocError → Type 0
DoesAll slow ops site before after (Ok gesture) =
    HasMade slow (done slow ops) (making site gesture) × (after ≡ before + length ops)
DoesAll slow ops site before after (Err why) = (before ≤ after) × (after ≤ before + length ops)
