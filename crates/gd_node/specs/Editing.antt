-- What becomes of own events, once a node's site has made them, and how a line is refused.
use Rattle.std.specs.Prelude.{◌≡◌, List, [], ◌∷◌, ◌++◌, Option, None, Some, Result, Err, OnOk}
use Rattle.gd_base.specs.declared.refusal.Refusal.{Refusal}
use Rattle.gd_dialogue.specs.Keeping.{KeepsLogs}
use Rattle.gd_dialogue.specs.Owing.{beside}
use Rattle.gd_effects.specs.Done.{Does}
use Rattle.gd_effects.specs.Effects.{Effect}
use Rattle.gd_effects.specs.Prints.{Prints}
use Rattle.gd_events.specs.Events.{Event}
use Rattle.gd_lines.specs.declared.reply.Reply.{Reply}
use Rattle.gd_lines.specs.declared.reply.Reply.TheVariants as reply
use Rattle.gd_node.specs.Calls.{TakesNone}
use Rattle.gd_node.specs.Meeting.{HasLog}
use Rattle.gd_node.specs.Owing.{Node}
use Rattle.gd_node.specs.declared.member.Member.{Member}
use Rattle.gd_outside.specs.Seen.{SeenSource, SeenSink, SeenJournal}
use Rattle.gd_outside.specs.Told.{Stays}
use Rattle.gd_outside.specs.declared.end.End.{End}
use Rattle.gd_outside.specs.declared.end.End.TheVariants as end
use Rattle.gd_protocol.specs.Sites.{IsWell}
use Rattle.gd_reference.specs.Said.{all_said, says}
use Rattle.gd_reference.specs.SiteEffects.{recording, tries_with}
use Rattle.gd_reference.specs.SlowSite.{SlowSite, journal_header}
use Rattle.gd_reference.specs.TakeBack.{with_events}
use Rattle.gd_site.specs.Sites.{StandsFor}

-- ---- refusals

-- That a call printed this refusal. Where there is none, it printed nothing, and memory had run out.
abbrev pub Refuses : Option Refusal → SeenSink → Result (Unit {0}) End → SeenSink → Type 0
Refuses None old result new = (result ≡ Err end.NoMemory) × (new ≡ old)
Refuses (Some why) old result new = Prints old (says (reply.Refused why) ∷ []) result new

-- ---- own events

-- the member's site stands for one that has made these events, which aren't in its log yet
pub record IsAhead (slow : SlowSite) (es : List Event) (member : Member) (journal : SeenJournal) : Type 0 where
  pub well : IsWell slow
  pub stands : StandsFor (with_events slow es) member.site
  pub log : HasLog (journal_header slow) slow.held member.log journal

-- what is still owed then
abbrev pub of_made : SlowSite → List Event → List Reply → List Effect
of_made slow es replies = recording slow es ++ all_said replies ++ tries_with slow es

-- A call at a node did that, or until its early end a part of it. The log has the events then, and nothing else of the
-- member has changed.
pub record Announces (es : List Event) (replies : List Reply) (result : Result (Unit {0}) End) (old new : Node) : Type 0
  where
    pub does : (slow : SlowSite) → IsAhead slow es old.answerer old.journal → (input : SeenSource)
        → Does result (beside input old) (of_made slow es replies) (beside input new)
    pub log : OnOk result ((slow : SlowSite) → IsAhead slow es old.answerer old.journal
        → HasLog (journal_header slow) (slow.held ++ es) new.answerer.log new.journal)
    pub keeps : (slow : SlowSite) → IsAhead slow es old.answerer old.journal
        → KeepsLogs old.journal new.journal
    pub site : new.answerer.site ≡ old.answerer.site
    pub backs : new.answerer.backs ≡ old.answerer.backs
    pub takes : TakesNone old.link new.link
    pub name : Stays old.journal.name new.journal.name
