-- A site, and what takes its gestures back, stand for a reference site.
use Rattle.std.specs.Prelude.{◌≡◌, ℕ, List, drop, length, IfOk, Result}
use Rattle.gd_events.specs.Events.{Event}
use Rattle.gd_events.specs.Ops.{Op}
use Rattle.gd_reference.specs.Backs.{Backs, kept}
use Rattle.gd_reference.specs.SiteEffects.{turned}
use Rattle.gd_reference.specs.SlowSite.{SlowSite}
use Rattle.gd_reference.specs.TakeBack.{backs_of, turn_by, with_events}
use Rattle.gd_site.specs.Sites.{SiteValue, StandsFor}
use Rattle.gd_takeback.specs.Answers.{OnBackRefusal, PaysFor, TurnIs}
use Rattle.gd_takeback.specs.declared.take_back.BackFault.{BackFault}

pub record StandsWith (slow : SlowSite) (s : SiteValue) (backs : Backs) : Type 0 where
  pub site : StandsFor slow s
  pub backs_are : backs ≡ slow.backs

-- a site, the gestures that are due, and the others
pub record Handed : Type 0 where
  pub site : SiteValue
  pub due : List (List Op)
  pub others : List (List Op)

abbrev pub handed : SiteValue → List (List Op) → List (List Op) → Handed
handed site due others = record { site = site; due = due; others = others }

-- these events were made of the first that was due
pub record Passes (slow : SlowSite) (es : List Event) (old new : Handed) : Type 0 where
  pub site : StandsFor (with_events slow es) new.site
  pub due : new.due ≡ drop 1 old.due
  pub others : new.others ≡ kept (backs_of slow es) old.others

-- the first that was due was done, or refused, or memory ran out
pub record PassesOn (slow : SlowSite) (r : Result (List Event) BackFault) (old new : Handed) (before after : ℕ) : Type 0
  where
    pub answer : TurnIs (turn_by slow old.due) r
    pub passes : IfOk r (λ es. Passes slow es old new)
    pub keeps : OnBackRefusal r (new ≡ old)
    pub steps : PaysFor (length (turned (turn_by slow old.due))) r before after
