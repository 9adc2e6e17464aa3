use Rattle.gd_check.proofs.Words.{by_rows}
use Rattle.gd_check.proofs.register.with_four_zeros.Goals as goal

pub returns : goal.returns
returns c
    = by_rows 0 c.args.register _ _ _ _ c.row_32.ensures c.row_24.ensures c.row_16.ensures c.row.ensures
