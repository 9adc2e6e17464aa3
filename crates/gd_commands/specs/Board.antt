-- The form of `board`: `[--counts]`.
use Rattle.std.specs.Prelude.{[], ◌∷◌, Some, codes}
use Rattle.clap.specs.Words.{first_of}
use Rattle.gd_asked.specs.declared.command.Command.TheVariants as command
use Rattle.gd_commands.specs.Forms.{Form, flag_rule, is_set}

abbrev pub board_form : Form
board_form =
    record {
      name = codes "board";
      arguments = flag_rule (codes "counts") ∷ [];
      asks = λ rows. Some (command.Board (is_set (first_of (codes "counts") rows)));
    }
