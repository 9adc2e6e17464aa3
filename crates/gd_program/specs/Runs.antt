-- A run of the program: what was asked, what the slow run owes for it, and what it has to be told.
use Rattle.std.specs.Prelude.{ℕ, List, Option, Some, None, IsSome}
use Rattle.gd_commands.specs.Commands.{command_of}
use Rattle.gd_effects.specs.Effects.{Effect}
use Rattle.gd_effects.specs.Endings.{IsUncut}
use Rattle.gd_effects.specs.Outside.{IsTold, Outside}
use Rattle.gd_node.specs.Rejoining.{IsToldAll}
use Rattle.gd_asked.specs.declared.command.Command.{Command}
use Rattle.gd_asked.specs.declared.command.Command.TheVariants.{Node, Rejoin, Churn}
use Rattle.gd_outside.specs.Seen.{Entry}
use Rattle.gd_outside.specs.Told.{told}
use Rattle.gd_outside.specs.declared.status.Status.{Status}
use Rattle.gd_run.specs.Runs.{cut_of, effects_of, end_of}

-- the words after the program's name, how the run of them ended, and what was outside before and after it
pub record Run : Type 0 where
  pub words : List (List ℕ)
  pub status : Status
  pub before : Outside
  pub after : Outside

-- the command that the words ask for, if they ask for one
abbrev pub asked : Run → Option Command
asked run = command_of run.words

-- the bytes of its input, the contents of its journal, and the entries of its link, where they are told
abbrev pub input : Run → List ℕ
input run = told run.before.input.left

abbrev pub contents : Run → List ℕ
contents run = told run.before.journal.contents

abbrev pub entries : Run → List Entry
entries run = told run.before.link.entries

-- what the slow run owes for it, how that ends, and what is owed for a part of the input
abbrev pub owed : Run → List Effect
owed run = effects_of (asked run) (contents run) (input run) (entries run)

abbrev pub owed_status : Run → Status
owed_status run = end_of (asked run) (contents run) (input run)

abbrev pub owed_for_part : Run → List ℕ → List Effect
owed_for_part run taken = cut_of (asked run) (contents run) (entries run) taken

-- What a command depends on: a node on what its input and its link hand out, and on what is in its journal, where it
-- goes on from that; a churn on nothing; another command on its input.
abbrev pub IsToldFor : Option Command → Outside → Type 0
IsToldFor None o = Unit {0}
IsToldFor (Some (Node session site journal addresses)) o = IsTold o
IsToldFor (Some (Rejoin session site journal addresses)) o = IsToldAll o
IsToldFor (Some (Churn seed steps)) o = Unit {0}
IsToldFor (Some other) o = IsSome o.input.left

-- the run was told what it depends on
abbrev pub Told : Run → Type 0
Told run = IsToldFor (asked run) run.after

-- and nothing cut it short
abbrev pub Whole : Run → Type 0
Whole run = Told run × IsUncut run.status
