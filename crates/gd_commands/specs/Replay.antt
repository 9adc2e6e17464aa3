-- The form of `replay`: `[--format text|json|events] [--counts] [--upto-fault]`. The format is `text` where none is
-- given.
use Rattle.std.specs.Prelude.{[], ◌∷◌, Option, Some, None, bytes_eq, codes, if◌then◌else◌, option_map}
use Rattle.clap.specs.Words.{Rule, Text, first_of, new_rule}
use Rattle.gd_asked.specs.declared.command.Command.{Command}
use Rattle.gd_asked.specs.declared.command.Command.TheVariants as command
use Rattle.gd_options.specs.declared.format.Format.{Format}
use Rattle.gd_options.specs.declared.format.Format.TheVariants as format
use Rattle.gd_commands.specs.Forms.{Form, flag_rule, is_set}

abbrev pub format_rule : Rule
format_rule = record (new_rule (codes "format")) { long = Some (codes "format") }

abbrev pub format_in : Text → Option Format
format_in word =
    if bytes_eq word (codes "text") then Some format.Text
    else if bytes_eq word (codes "json") then Some format.Json
    else if bytes_eq word (codes "events") then Some format.Events
    else None

abbrev pub format_or_text : Option Text → Option Format
format_or_text None = Some format.Text
format_or_text (Some word) = format_in word

abbrev pub replay_by : Option Text → Option Text → Option Text → Option Command
replay_by format counts upto = option_map (λ f. command.Replay f (is_set counts) (is_set upto)) (format_or_text format)

abbrev pub replay_form : Form
replay_form =
    record {
      name = codes "replay";
      arguments = format_rule ∷ flag_rule (codes "counts") ∷ flag_rule (codes "upto-fault") ∷ [];
      asks =
          λ rows. replay_by (first_of (codes "format") rows) (first_of (codes "counts") rows)
          (first_of (codes "upto-fault") rows);
    }
