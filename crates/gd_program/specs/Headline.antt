-- The headline, sentence by sentence: whatever lines and datagrams the program is handed, what it leaves is the slow
-- run's.
use Rattle.std.specs.Prelude.{◌≡◌, ◌+◌, ◌≤◌, ◌⊎◌}
use Rattle.gd_commands.specs.Plain.{IsPlain, Plain, plain_words}
use Rattle.gd_effects.specs.Done.{DidFront, DidHalfPrint, DidTornRecord, Journals, NoneFell}
use Rattle.gd_effects.specs.Effects.{cost, printed, tried}
use Rattle.gd_effects.specs.Endings.{Causes, DidRead, Unopened}
use Rattle.gd_outside.specs.Causes.{Rose}
use Rattle.gd_outside.specs.Told.{told, Grows}
use Rattle.gd_outside.specs.declared.status.Status.TheVariants.{Usage, ReadFault, WriteFault, JournalFault, LinkFault}
use Rattle.gd_outside.specs.declared.status.Status.TheVariants.{NoMemory}
use Rattle.gd_program.specs.Commands.{HasLogOf, HoldsLogOf, IsEnd, IsUnread, Keeps, Named, OpensFirst, Silent}
use Rattle.gd_program.specs.Commands.{Untouched, left_of}
use Rattle.gd_program.specs.Runs.{Run, Told, Whole, asked, contents, entries, input}
use Rattle.gd_program.specs.Runs.{owed, owed_for_part, owed_status}

pub record Headline (run : Run) : Type 0 where
  -- ---- where nothing cut the run short

  -- it ends as the slow run does
  pub status : Whole run → run.status ≡ owed_status run
  -- its printed answers are the slow run's
  pub output : Whole run → Grows run.before.output.bytes (printed (owed run)) run.after.output.bytes
  -- so is its journal
  pub journal : Whole run → Journals run.before.journal (owed run) run.after.journal
  -- which is, for a node, the log of what the slow site holds after its lines
  pub log : Whole run
      → HasLogOf (asked run) (contents run) (input run) (entries run) run.after.journal
  -- so are the frames that it sends, or tries to
  pub frames : Whole run → Grows run.before.link.tried (tried (owed run)) run.after.link.tried
  -- the entries of the link that are left are the slow run's: a node receives at `poll` alone
  pub left : Whole run
      → told run.after.link.entries ≡ left_of (asked run) (contents run) (input run) (entries run)
  -- it takes as many steps as the slow run's events cost
  pub steps : Whole run → run.after.steps ≡ run.before.steps + cost (owed run)
  -- ---- where it was cut short

  -- without memory, a front of what is owed was done
  pub memory : Told run → run.status ≡ NoMemory → DidFront run.before (owed run) run.after
  -- after a failed read, what is owed for the whole lines that were read before
  pub read : Told run → run.status ≡ ReadFault
      → DidFront run.before (owed run) run.after × DidRead run.before (owed_for_part run) run.after
  -- after a failed write, a front, and a front of the next line
  pub write : Told run → run.status ≡ WriteFault → DidHalfPrint run.before (owed run) run.after
  -- After a failed call of the journal, a front; and the journal is a log with the next gesture, all events of it, or
  -- without. Where nothing was found yet in a journal to go on from, nothing was done, and its contents are as before.
  pub torn : Told run → run.status ≡ JournalFault
      → DidTornRecord run.before (owed run) run.after
      ⊎ IsUnread (asked run) run.status run.before run.after
  -- where the link wasn't opened, nothing, and no entry was taken
  pub unopened : run.status ≡ LinkFault → Unopened run.before run.after
  pub opens_first : OpensFirst run.status run.before run.after
  -- Once a node has begun its log, or found it, whatever crash comes leaves that log with a front of the gestures that
  -- were recorded, each with all of its events.
  pub keeps : Keeps (asked run) run.status run.before run.after
  -- then, whatever comes, and whatever the input and the link tell, the journal holds a log of that header, with the
  -- found events first, and so does whatever a crash leaves
  pub holds : HoldsLogOf (asked run) run.status run.before run.after
  -- it takes no more steps than the slow run
  pub most_steps : Told run → run.after.steps ≤ run.before.steps + cost (owed run)
  -- ---- when it is cut short

  -- a status that says that a call on an object failed comes only where that object's count of faults rose, and none
  -- falls
  pub cause : Causes run.status run.before run.after
  pub counts : NoneFell run.before run.after
  -- where no call of the input, the output and the journal failed, and the link was opened, the run is carried out,
  -- unless memory ran out
  pub complete : Told run → ¬ Rose run.before.input.faults run.after.input.faults
      → ¬ Rose run.before.output.faults run.after.output.faults
      → ¬ Rose run.before.journal.faults run.after.journal.faults → ¬ (run.status ≡ LinkFault)
      → (run.status ≡ owed_status run) ⊎ (run.status ≡ NoMemory)
  -- ---- by the command

  -- each command has its own statuses; words that ask for none are refused, and only these
  pub ends : IsEnd (asked run) run.status
  -- words in a command's plain form are taken
  pub plain : (p : Plain) → IsPlain p → run.words ≡ plain_words p → ¬ (run.status ≡ Usage)
  -- what a command has nothing to do with stays as it was
  pub untouched : Untouched (asked run) run.before run.after
  -- a command that reads a log printed nothing where it couldn't read it, or had no memory for it
  pub silent : Silent (asked run) run.status run.before run.after
  -- the link's addresses and own number are those of the words, and so is the journal's path once its log is begun, or
  -- found
  pub named : Named (asked run) run.status run.before run.after
