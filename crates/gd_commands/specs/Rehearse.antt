-- The form of `rehearse`: `--sites N`, with N from 1 to 16.
use Rattle.std.specs.Prelude.{[], ◌∷◌, Option, Some, None, codes, option_map}
use Rattle.clap.specs.Words.{Text, first_of}
use Rattle.gd_base.specs.declared.ranges.TheConstants.{SITES}
use Rattle.gd_asked.specs.declared.command.Command.{Command}
use Rattle.gd_asked.specs.declared.command.Command.TheVariants as command
use Rattle.gd_commands.specs.Forms.{Form, value_rule}
use Rattle.gd_commands.specs.Numbers.{number_from}

abbrev pub rehearse_by : Option Text → Option Command
rehearse_by None = None
rehearse_by (Some sites) = option_map (λ n. command.Rehearse n) (number_from 1 SITES sites)

abbrev pub rehearse_form : Form
rehearse_form =
    record {
      name = codes "rehearse";
      arguments = value_rule (codes "sites") ∷ [];
      asks = λ rows. rehearse_by (first_of (codes "sites") rows);
    }
