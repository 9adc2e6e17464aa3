-- The form of `churn`: `--seed N --steps M`, with N below 2^64, and M up to 10,000.
use Rattle.std.specs.Prelude.{◌-◌, ◌^◌, [], ◌∷◌, Option, Some, None, codes, option_map}
use Rattle.clap.specs.Words.{Text, first_of}
use Rattle.gd_options.specs.declared.churn.TheConstants.{CHURN_STEPS}
use Rattle.gd_asked.specs.declared.command.Command.{Command}
use Rattle.gd_asked.specs.declared.command.Command.TheVariants as command
use Rattle.gd_commands.specs.Forms.{Form, value_rule}
use Rattle.gd_commands.specs.Node.{both}
use Rattle.gd_commands.specs.Numbers.{number_from}

abbrev pub churn_by : Option Text → Option Text → Option Command
churn_by (Some seed) (Some steps) =
    option_map (λ n. command.Churn n.0 n.1) (both (number_from 0 (2 ^ 64 - 1) seed) (number_from 0 CHURN_STEPS steps))
churn_by (Some seed) None = None
churn_by None steps = None

abbrev pub churn_form : Form
churn_form =
    record {
      name = codes "churn";
      arguments = value_rule (codes "seed") ∷ value_rule (codes "steps") ∷ [];
      asks = λ rows. churn_by (first_of (codes "seed") rows) (first_of (codes "steps") rows);
    }
