use Rattle.std.proofs.Common.{arith}
use Rattle.std.proofs.lemmas.Result.{err_from_is_err_and}
use Rattle.gd_handover.proofs.JudgedLemmas.{number-stops, number-high, number-read}
use Rattle.gd_handover.proofs.parts.read_number.Goals as goal

pub returns-in_err-number-clause-part : goal.returns-in_err-number-clause-part
returns-in_err-number-clause-part g c =
    let p = err_from_is_err_and c.from_residual.result c.from_residual.ensures.1 in
    rw (p.1, p.2) (number-stops c.args.most c.args.before _ c.in_err-number.ensures.part)

pub returns-then-number-most-clause-part : goal.returns-then-number-most-clause-part
returns-then-number-most-clause-part g c
    = number-high c.args.most c.args.before c.in_ok-number.number (omega arith) c.in_ok-number.ensures.part

pub returns-clause-part : goal.returns-clause-part
returns-clause-part g c
    = number-read c.args.most c.args.before c.in_ok-number.number (omega arith) c.in_ok-number.ensures.part
