-- What `replay` does with bytes, where it may be asked to go up to their first fault: then the events before it arrive
-- and are shown, before it is said.
use Rattle.std.specs.Prelude.{ℕ, zero, suc, Bool, true, false, List, [], ◌∷◌, ◌++◌, length, Option, None, Some, Result}
use Rattle.std.specs.Prelude.{Ok, Err}
use Rattle.gd_effects.specs.Effects.{Effect}
use Rattle.gd_events.specs.Events.{Event}
use Rattle.gd_grammar.specs.Drawings.{drawings, log}
use Rattle.gd_grammar.specs.HeaderBytes.{Header, header_at}
use Rattle.gd_grammar.specs.LogBytes.{LogMisread, in_log, step_at}
use Rattle.gd_grammar.specs.Reading.{place}
use Rattle.gd_lines.specs.declared.reply.Reply.TheVariants as reply
use Rattle.gd_options.specs.declared.format.Format.{Format}
use Rattle.gd_reference.specs.Said.{says}
use Rattle.gd_reference.specs.SlowRun.{replay_effects}

-- ---- what stands before a fault

-- what a step gives: an event, and what is read behind it, or no more
abbrev pub unless_ended : List Event → (Event × List ℕ → List Event) → Result (Option (Event × List ℕ)) LogMisread
    → List Event
unless_ended seen more (Ok (Some e)) = more e
unless_ended seen more (Ok None) = seen
unless_ended seen more (Err fault) = seen

-- the events behind these, in at most k steps, up to the first fault
unfoldable pub events_upto : ℕ → Header → List Event → List ℕ → List Event
events_upto zero h seen bytes = seen
events_upto (suc k) h seen bytes =
    unless_ended seen (λ e. events_upto k h (seen ++ e.0 ∷ []) e.1) (step_at drawings h seen bytes)

abbrev pub behind_header : Result (Header × List ℕ) LogMisread → List Event
behind_header (Ok h) = events_upto (length h.1) h.0 [] h.1
behind_header (Err fault) = []

-- the events of a log up to its first fault, of which there are none where that is in its header
unfoldable pub events_before : List ℕ → List Event
events_before bytes = behind_header (in_log (header_at drawings bytes))

-- ---- what is done

-- these are shown, where that is asked for
abbrev pub shown_where : Bool → Format → Bool → List Event → List Effect
shown_where true format counts events = replay_effects format counts events
shown_where false format counts events = []

abbrev pub replayed_by_as : Bool → Format → Bool → List ℕ → Result (Header × List Event) LogMisread → List Effect
replayed_by_as upto format counts bytes (Ok found) = replay_effects format counts found.1
replayed_by_as upto format counts bytes (Err fault) =
    shown_where upto format counts (events_before bytes) ++ says (reply.BadLog (place bytes fault.left) fault.why) ∷ []

abbrev pub replayed_by : Bool → Format → Bool → List ℕ → List Effect
replayed_by upto format counts bytes = replayed_by_as upto format counts bytes (log bytes)
