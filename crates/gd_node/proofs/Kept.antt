-- The logs in a node's journal are kept, whatever the input and the link tell; and what it holds then.
use Rattle.std.proofs.Common.{ℕ, List, [], ◌∷◌, ◌++◌, map, refl, sym, ◌∙◌, ap, append-nil}
use Rattle.std.specs.Prelude.{IsSome, Ok, Result}
use Rattle.gd_dialogue.proofs.Keeping.{keeps_done}
use Rattle.gd_dialogue.specs.Keeping.{HoldsLog, IsLogFrom, KeepsLogs}
use Rattle.gd_effects.proofs.RunEnds.{idle_link, idle_source}
use Rattle.gd_effects.specs.Crashes.{Stands}
use Rattle.gd_effects.specs.Done.{Does, HasNoHead}
use Rattle.gd_effects.specs.Effects.{Effect, Print}
use Rattle.gd_effects.specs.Outside.{outside}
use Rattle.gd_events.specs.Events.{Event}
use Rattle.gd_grammar.specs.Closing.{Closes}
use Rattle.gd_grammar.specs.Drawings.{drawings}
use Rattle.gd_grammar.specs.HeaderBytes.{Header}
use Rattle.gd_lines.specs.Replies.{reply_text}
use Rattle.gd_lines.specs.declared.reply.Reply.{Reply}
use Rattle.gd_node.specs.Serving.{Holds}
use Rattle.gd_outside.specs.Seen.{SeenSink, SeenJournal}
use Rattle.gd_outside.specs.Told.{told}
use Rattle.gd_outside.specs.declared.end.End.{End}
use Rattle.gd_reference.specs.Said.{all_said}
use Rattle.gd_reference.specs.SiteEffects.{recording}
use Rattle.gd_reference.specs.SlowSite.{SlowSite}

-- ---- what begins no journal

no_head_said : (lines : List (List ℕ)) → HasNoHead (map Print lines)
no_head_said [] = tt
no_head_said (line ∷ lines) = no_head_said lines

-- what is recorded and said together
pub no_head_noted : (slow : SlowSite) (es : List Event) (replies : List Reply)
    → HasNoHead (recording slow es ++ all_said replies)
no_head_noted slow [] replies = no_head_said (map reply_text replies)
no_head_noted slow (e ∷ es) replies = no_head_said (map reply_text replies)

-- ---- what is kept

-- by a call that may be asked beside an input and a link that tell all
pub keeps_idle : {T : Type 0} {r : Result T End} {xs : List Effect} {header : Header} {held : List Event}
    {output output' : SeenSink} {old new : SeenJournal} {steps steps' : ℕ}
    → (IsSome old.contents → Stands drawings header held old)
    → Does r (outside idle_source output old idle_link steps) xs (outside idle_source output' new idle_link steps')
    → HasNoHead xs → KeepsLogs old new
keeps_idle {r = r} {xs} {output = output} {output'} {old} {new} {steps} {steps'} stands does none =
    keeps_done (outside idle_source output old idle_link steps) (outside idle_source output' new idle_link steps')
    stands r xs none does (record { input = refl; entries = refl })

-- ---- what is held then

log_itself : (h : Header) (events : List Event) (bytes : List ℕ) → Closes drawings h events bytes
    → IsLogFrom h events bytes
log_itself h events bytes closes = record {
  more = [];
  read = closes.read ∙ ap (λ (es : List Event). Ok (h, es)) (sym (append-nil events));
}

-- where the journal stood for a log, and then logs were kept
pub held_after : (h : Header) (events : List Event) {old new : SeenJournal}
    → (IsSome old.contents → Stands drawings h events old) → KeepsLogs old new → Holds h events new
held_after h events {old} stands keeps t =
    let stood = stands (keeps.was t) in
    let holds : HoldsLog h events old = record {
      contents = log_itself h events (told old.contents) stood.contents;
      images = λ image is. log_itself h events image (stood.images image is);
    } in
    (keeps.stays t h events holds).holds
