use Rattle.std.proofs.Common.{◌∷◌, [], ◌∙◌, arith}
use Rattle.std.proofs.lemmas.List.{length-append}
use Rattle.std.proofs.lemmas.Result.{err_from_is_err_and}
use Rattle.gd_grammar.proofs.Many.{reading-more, reading-faulty, reading-end, put-last}
use Rattle.gd_wire.proofs.bytes.Bytes.ties.Goals as goal

pub returns-in_err-tie : goal.returns-in_err-tie
returns-in_err-tie c =
    let p = err_from_is_err_and c.from_residual.result c.from_residual.ensures.1 in
    rw (p.1, p.2) (reading-faulty c.args.count c.each.counter c.in_err-tie.field-0.0 c.each-test.true
    c.each.invariant.reading c.in_err-tie.ensures)

pub each-preserved : goal.each-preserved
each-preserved c =
    let last = c.push.ensures.items ∙ put-last 32 c.each.ties c.in_ok-tie.tie (omega arith) in
    rw last record {
      reading = reading-more c.args.count c.each.counter c.in_ok-tie.tie c.each-test.true c.each.invariant.reading
          c.in_ok-tie.ensures;
      so_many = omega (arith, length-append c.each.ties (c.in_ok-tie.tie ∷ []));
    }

pub returns : goal.returns
returns c = reading-end c.args.count c.each.counter (omega arith) c.each.invariant.reading
