-- Lines that are made one gesture.
use Rattle.std.specs.Prelude.{◌≡◌, ◌+◌, ◌++◌, ℕ, List, [], ◌∷◌, length, true, Option, None, Some, Result, Ok, Err}
use Rattle.std.specs.Prelude.{nat_le, if◌then◌else◌}
use Rattle.std.specs.List.{AllByRecursion, flat_map}
use Rattle.std.specs.declared.alloc.AllocError.{AllocError}
use Rattle.gd_base.specs.declared.refusal.Refusal.{Refusal}
use Rattle.gd_base.specs.declared.refusal.Refusal.TheVariants.{GestureFull, InGesture}
use Rattle.gd_events.specs.Events.{Event}
use Rattle.gd_lines.specs.Lines.{read}
use Rattle.gd_lines.specs.Refusals.{line_refusal}
use Rattle.gd_lines.specs.Replies.{reply_text}
use Rattle.gd_lines.specs.declared.command.Command.TheVariants as command
use Rattle.gd_lines.specs.declared.reply.Reply.{Reply}
use Rattle.gd_member.specs.Lines.{PaysUpTo}
use Rattle.gd_member.specs.Members.{MemberValue}
use Rattle.gd_member.specs.Standing.{Stands}
use Rattle.gd_member.specs.Unwritten.{AreUnwritten, UnwrittenValue}
use Rattle.gd_protocol.specs.Sites.{IsAsk}
use Rattle.gd_reference.specs.Backs.{Backs}
use Rattle.gd_reference.specs.InputLines.{lines_of}
use Rattle.gd_reference.specs.NodeRun.{ReadLine, most_waiting, with_asked, with_waiting}
use Rattle.gd_reference.specs.SiteEffects.{asked_replies, asked_reply, gesture_replies}
use Rattle.gd_reference.specs.SlowSite.{SlowSite}
use Rattle.gd_reference.specs.TakeBack.{Asked, after_gesture, answer, events_in, made}
use Rattle.gd_site.specs.Sites.{SiteValue}
use Rattle.gd_takeback.specs.Making.{HasMade, Makes, Making}
use Rattle.gd_takeback.specs.Standing.{StandsWith}

-- ---- the lines

-- With one line more: as it waits at a node between `begin` and `end`. Both words, and `quit`, are refused as every
-- command that is no edit.
abbrev pub with_line : List Asked → ReadLine → List Asked
with_line asked (Ok command.Quit) = with_asked asked (Err InGesture)
with_line asked line = with_waiting asked line

-- with several
unfoldable pub with_lines : List Asked → List (List ℕ) → List Asked
with_lines asked [] = asked
with_lines asked (line ∷ lines) = with_lines (with_line asked (read line)) lines

-- what these bytes ask for, which are the lines of a gesture
abbrev pub asked_in : List ℕ → List Asked
asked_in bytes = with_lines [] (lines_of bytes)

-- ---- what a call leaves

-- The gesture was made: the member stands for the site after it, what is said of each line was said, and how many there
-- were, each event took a step, and so many lines were refused.
pub record IsGesture (slow : SlowSite) (written : List Event) (asked : List Asked) (refused : ℕ) (m : MemberValue)
    (told now : List ℕ) (before after : ℕ) : Type 0 where
  pub refused_are : refused + length (made slow asked) ≡ length asked
  pub stands : Stands (after_gesture slow asked) written m
  pub said : now ≡ told ++ flat_map reply_text (gesture_replies slow asked)
  pub steps : after ≡ before + length (made slow asked)

-- where memory ran out the member isn't live
abbrev pub Gestures : SlowSite → List Event → List Asked → Result ℕ AllocError → MemberValue → List ℕ → List ℕ → ℕ → ℕ
    → Type 0
Gestures slow written asked (Ok refused) m told now before after =
    IsGesture slow written asked refused m told now before after
Gestures slow written asked (Err why) m told now before after =
    (m.spent ≡ true) × PaysUpTo (length (made slow asked)) before after

-- a member's parts
pub record Parts : Type 0 where
  pub site : SiteValue
  pub backs : Backs
  pub unwritten : UnwrittenValue

abbrev pub parts : SiteValue → Backs → UnwrittenValue → Parts
parts site backs unwritten = record { site = site; backs = backs; unwritten = unwritten }

-- the parts stand for the site after it, and its events are unwritten
pub record IsCarriedOut (slow : SlowSite) (written others : List Event) (asked : List Asked) (refused : ℕ) (p : Parts)
    (told now : List ℕ) (before after : ℕ) : Type 0 where
  pub refused_are : refused + length (made slow asked) ≡ length asked
  pub stands : StandsWith (after_gesture slow asked) p.site p.backs
  pub unwritten : AreUnwritten written (others ++ made slow asked) p.unwritten
  pub said : now ≡ told ++ flat_map reply_text (gesture_replies slow asked)
  pub steps : after ≡ before + length (made slow asked)

abbrev pub CarriesOut : SlowSite → List Event → List Event → List Asked → Result ℕ AllocError → Parts → List ℕ → List ℕ
    → ℕ → ℕ → Type 0
CarriesOut slow written others asked (Ok refused) p told now before after =
    IsCarriedOut slow written others asked refused p told now before after
CarriesOut slow written others asked (Err why) p told now before after =
    PaysUpTo (length (made slow asked)) before after

-- ---- one line

-- what it asks for behind so many, if it isn't blank
abbrev pub unless_full : ℕ → Asked → Asked
unless_full count next = if nat_le most_waiting count then Err GestureFull else next

abbrev pub next_asked : ℕ → ReadLine → Option Asked
next_asked count (Ok (command.Edit wanted)) = Some (unless_full count (Ok wanted))
next_asked count (Ok command.Blank) = None
next_asked count (Ok other) = Some (unless_full count (Err InGesture))
next_asked count (Err fault) = Some (unless_full count (Err (line_refusal fault)))

-- the event that it becomes was made; without one nothing changed
abbrev pub MakesIt : Result Event Refusal → SlowSite → Making → Making → Type 0
MakesIt (Ok e) slow old new = Makes slow e old new
MakesIt (Err why) slow old new = new ≡ old

-- it was judged: this is said of it, and its event was made in a step
pub record Judges (slow : SlowSite) (asked : Asked) (said : Reply) (old new : Making) (before after : ℕ) : Type 0 where
  pub said_is : said ≡ asked_reply (answer slow asked)
  pub makes : MakesIt (answer slow asked) slow old new
  pub steps : after ≡ before + length (events_in (answer slow asked))

-- ---- one after another

-- what the lines ask for so far was judged, and that was said of each
pub record AreJudged (slow : SlowSite) (asked : List Asked) (count : ℕ) (m : Making) (told now : List ℕ)
    (before after : ℕ) : Type 0 where
  pub ranged : AllByRecursion IsAsk asked
  pub counted : count ≡ length asked
  pub has : HasMade slow (made slow asked) m
  pub said : now ≡ told ++ flat_map reply_text (asked_replies slow asked)
  pub steps : after ≡ before + length (made slow asked)

-- so was all that is asked for, or memory ran out before
abbrev pub Judged : SlowSite → List Asked → Result ℕ AllocError → Making → List ℕ → List ℕ → ℕ → ℕ → Type 0
Judged slow asked (Ok count) m told now before after = AreJudged slow asked count m told now before after
Judged slow asked (Err why) m told now before after = PaysUpTo (length (made slow asked)) before after
