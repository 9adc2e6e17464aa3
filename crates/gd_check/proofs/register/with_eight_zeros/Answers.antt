use Rattle.gd_check.proofs.Words.{by_rows}
use Rattle.gd_check.proofs.register.with_eight_zeros.Goals as goal

pub returns : goal.returns
returns c
    = by_rows 32 c.args.register _ _ _ _ c.row_64.ensures c.row_56.ensures c.row_48.ensures c.row_40.ensures
