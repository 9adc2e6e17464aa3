-- The forms of `upgrade`, `snapshot` and `view`: no further words.
use Rattle.std.specs.Prelude.{[], Some, codes}
use Rattle.clap.specs.Words.{Text}
use Rattle.gd_asked.specs.declared.command.Command.{Command}
use Rattle.gd_asked.specs.declared.command.Command.TheVariants as command
use Rattle.gd_commands.specs.Forms.{Form}

abbrev pub lone_form : Text → Command → Form
lone_form name command = record { name = name; arguments = []; asks = λ rows. Some command }

abbrev pub upgrade_form : Form
upgrade_form = lone_form (codes "upgrade") command.Upgrade

abbrev pub snapshot_form : Form
snapshot_form = lone_form (codes "snapshot") command.Snapshot

abbrev pub view_form : Form
view_form = lone_form (codes "view") command.View
