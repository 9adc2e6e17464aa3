use Rattle.gd_check.proofs.Rows.{row_48_is}
use Rattle.gd_check.proofs.table.row_48.Goals as goal

pub returns : goal.returns
returns c = row_48_is c.args.byte c.requires
