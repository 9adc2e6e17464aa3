use Rattle.gd_check.proofs.Rows.{row_40_is}
use Rattle.gd_check.proofs.table.row_40.Goals as goal

pub returns : goal.returns
returns c = row_40_is c.args.byte c.requires
