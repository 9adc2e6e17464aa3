use Rattle.gd_check.proofs.Rows.{row_64_is}
use Rattle.gd_check.proofs.table.row_64.Goals as goal

pub returns : goal.returns
returns c = row_64_is c.args.byte c.requires
