use Rattle.gd_check.proofs.Rows.{row_56_is}
use Rattle.gd_check.proofs.table.row_56.Goals as goal

pub returns : goal.returns
returns c = row_56_is c.args.byte c.requires
