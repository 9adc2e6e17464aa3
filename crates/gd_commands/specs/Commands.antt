-- What the words of a command line ask for: the first is a command's name, and the others are in that command's form.
use Rattle.std.specs.Prelude.{List, [], ◌∷◌, Option, None, bytes_eq, if◌then◌else◌}
use Rattle.clap.specs.Words.{Text}
use Rattle.gd_asked.specs.declared.command.Command.{Command}
use Rattle.gd_commands.specs.Board.{board_form}
use Rattle.gd_commands.specs.Forms.{Form, asked_by}
use Rattle.gd_commands.specs.Replay.{replay_form}
use Rattle.gd_commands.specs.Lone.{snapshot_form, upgrade_form, view_form}
use Rattle.gd_commands.specs.Node.{node_form}
use Rattle.gd_commands.specs.Rehearse.{rehearse_form}
use Rattle.gd_commands.specs.Churn.{churn_form}

abbrev pub forms : List Form
forms =
    replay_form ∷ upgrade_form ∷ snapshot_form ∷ view_form ∷ board_form ∷ node_form ∷ rehearse_form ∷ churn_form ∷ []

abbrev pub asked_by_one : List Form → Text → List Text → Option Command
asked_by_one [] name words = None
asked_by_one (form ∷ rest) name words =
    if bytes_eq name form.name then asked_by form words else asked_by_one rest name words

-- the command that the words ask for, if they ask for one
unfoldable pub command_of : List Text → Option Command
command_of [] = None
command_of (name ∷ words) = asked_by_one forms name words
