-- The lines of a gesture: what a node owes for them, and what judging them comes to.
use Rattle.std.specs.Prelude.{◌≡◌, ◌≤◌, ◌+◌, ◌++◌, ℕ, List, Result, Ok, Err, length}
use Rattle.std.specs.List.{AllByRecursion, flat_map}
use Rattle.gd_base.specs.declared.refusal.Refusal.{Refusal}
use Rattle.gd_dialogue.specs.Owing.{without_entries}
use Rattle.gd_events.specs.Events.{Event}
use Rattle.gd_lines.specs.Replies.{reply_text}
use Rattle.gd_lines.specs.declared.reply.Reply.{Reply}
use Rattle.gd_node.specs.Owing.{NodeOwed}
use Rattle.gd_outside.specs.declared.end.End.{End}
use Rattle.gd_protocol.specs.Sites.{IsAsk}
use Rattle.gd_reference.specs.SiteEffects.{asked_reply, of_gesture}
use Rattle.gd_reference.specs.SlowSite.{SlowSite}
use Rattle.gd_reference.specs.TakeBack.{Asked, after_gesture, answer, events_in, made}
use Rattle.gd_site.specs.Sites.{SiteValue}
use Rattle.gd_takeback.specs.Lists.{GestureValue}
use Rattle.gd_takeback.specs.Making.{HasMade, Makes, Making, making}

-- the edits among them are in their ranges
abbrev pub AreAsked : List Asked → Type 0
AreAsked asked = AllByRecursion IsAsk asked

-- what is owed for them all
abbrev pub for_gesture : List Asked → NodeOwed
for_gesture asked = without_entries (λ slow. of_gesture slow asked) (λ slow. after_gesture slow asked)

-- ---- one line

-- the event that a line becomes was made; without one nothing changed
abbrev pub MakesIt : Result Event Refusal → SlowSite → Making → Making → Type 0
MakesIt (Ok e) slow old new = Makes slow e old new
MakesIt (Err why) slow old new = new ≡ old

-- a line was judged: this is said of it, and its event was made in a step
pub record Judges (slow : SlowSite) (asked : Asked) (said : Reply) (old new : Making) (before after : ℕ) : Type 0 where
  pub said_is : said ≡ asked_reply (answer slow asked)
  pub makes : MakesIt (answer slow asked) slow old new
  pub steps : after ≡ before + length (events_in (answer slow asked))

-- ---- all of them

-- the events of these lines were made, in a step each, and this is said
pub record AreMade (slow : SlowSite) (asked : List Asked) (replies : List Reply) (m : Making) (told now : List ℕ)
    (before after : ℕ) : Type 0 where
  pub has : HasMade slow (made slow asked) m
  pub said : now ≡ told ++ flat_map reply_text replies
  pub steps : after ≡ before + length (made slow asked)

-- they were, or where memory ran out a front of them
abbrev pub JudgesAll : SlowSite → List Asked → List Reply → Result GestureValue End → SiteValue → List ℕ → List ℕ → ℕ
    → ℕ → Type 0
JudgesAll slow asked replies (Ok gesture) site told now before after =
    AreMade slow asked replies (making site gesture) told now before after
JudgesAll slow asked replies (Err end) site told now before after =
    (before ≤ after) × (after ≤ before + length (made slow asked))
