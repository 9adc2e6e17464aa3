-- What is left where a command was carried out, or where it was said how the program is called: from this the headline
-- follows.
use Rattle.std.specs.Prelude.{◌≡◌, ◌⊎◌, Option}
use Rattle.gd_effects.specs.Endings.{EndsAs, IsUncut}
use Rattle.gd_effects.specs.Outside.{Outside}
use Rattle.gd_asked.specs.declared.command.Command.{Command}
use Rattle.gd_outside.specs.Told.{told}
use Rattle.gd_outside.specs.declared.status.Status.{Status}
use Rattle.gd_run.specs.Runs.{cut_of, effects_of, end_of}
use Rattle.gd_program.specs.Commands.{HoldsLogOf, IsEnd, IsUnread, Keeps, Named, OpensFirst, Silent, Untouched, left_of}
use Rattle.gd_program.specs.Runs.{IsToldFor}

pub record Carried (asked : Option Command) (status : Status) (before after : Outside) : Type 0 where
  -- What was done is what is owed, and so is the status, where nothing cuts the run short; a fault has its cause. Or
  -- the journal to go on from failed before anything was found in it.
  pub ends :
      let contents = told before.journal.contents in
      let bytes = told before.input.left in
      let entries = told before.link.entries in
      EndsAs (IsToldFor asked after) (effects_of asked contents bytes entries)
      (cut_of asked contents entries) (end_of asked contents bytes) status before after
      ⊎ IsUnread asked status before after
  pub kind : IsEnd asked status
  pub untouched : Untouched asked before after
  pub silent : Silent asked status before after
  pub named : Named asked status before after
  pub keeps : Keeps asked status before after
  pub holds : HoldsLogOf asked status before after
  -- so are the entries that are left
  pub left :
      let contents = told before.journal.contents in
      let bytes = told before.input.left in
      let entries = told before.link.entries in
      IsToldFor asked after → IsUncut status
      → told after.link.entries ≡ left_of asked contents bytes entries
  pub opens_first : OpensFirst status before after
