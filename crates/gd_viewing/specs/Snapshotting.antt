-- The run that writes a snapshot: of the site that begins anew with the events of a log. Its kept events are undone to
-- find the drawing up to the line, which takes a step each.
use Rattle.std.specs.Prelude.{ℕ, List, [], ◌∷◌, ◌++◌, length, map, replicate, Result, Ok, Err}
use Rattle.gd_effects.specs.Effects.{Effect, Print, Work}
use Rattle.gd_events.specs.Events.{Event}
use Rattle.gd_grammar.specs.Drawings.{log}
use Rattle.gd_grammar.specs.HeaderBytes.{Header}
use Rattle.gd_grammar.specs.LogBytes.{LogMisread}
use Rattle.gd_grammar.specs.Reading.{place}
use Rattle.gd_lines.specs.declared.reply.Reply.TheVariants as reply
use Rattle.gd_model.specs.Arrivals.{costs}
use Rattle.gd_reference.specs.Said.{says}
use Rattle.gd_reference.specs.SlowSite.{SlowSite, kept, resumed}
use Rattle.gd_snapshots.specs.SnapshotBytes.{snapshot_pieces}
use Rattle.gd_viewing.specs.Handing.{snapshot_of}

-- the site of a log's header, with its events
abbrev pub site_of : Header → List Event → SlowSite
site_of h events = resumed h.site h.n h.session events

-- the steps of the arrivals, and one for each kept event
abbrev pub snapshot_work : SlowSite → List Effect
snapshot_work slow = map Work (costs slow.held ++ replicate (length (kept slow)) 1)

abbrev pub of_snapshot : SlowSite → List Effect
of_snapshot slow = snapshot_work slow ++ map Print (snapshot_pieces (snapshot_of slow))

-- what `snapshot` does with bytes that were read so, a log or none
abbrev pub snapshotted_as : List ℕ → Result (Header × List Event) LogMisread → List Effect
snapshotted_as bytes (Ok found) = of_snapshot (site_of found.0 found.1)
snapshotted_as bytes (Err fault) = says (reply.BadLog (place bytes fault.left) fault.why) ∷ []

abbrev pub snapshotted : List ℕ → List Effect
snapshotted bytes = snapshotted_as bytes (log bytes)
