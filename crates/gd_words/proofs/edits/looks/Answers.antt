use Rattle.std.proofs.Common.{◌∙◌, arith, refl}
use Rattle.std.proofs.lemmas.Result.{err_from_is_err_and}
use Rattle.gd_words.proofs.Groups.{looks_more, looks_end}
use Rattle.gd_words.proofs.edits.looks.Goals as goal

pub returns-in_err-more : goal.returns-in_err-more
returns-in_err-more c =
    let p = err_from_is_err_and c.from_residual.result c.from_residual.ensures.1 in
    rw (p.1, p.2) (c.loop.invariant ∙ looks_more c.args.count c.loop.counter c.loop.looks c.loop.words c.loop-test.true
    ∙ rw c.in_err-more.ensures refl)

pub loop-preserved : goal.loop-preserved
loop-preserved c =
    c.loop.invariant ∙ looks_more c.args.count c.loop.counter c.loop.looks c.loop.words c.loop-test.true
    ∙ rw c.in_ok-more.ensures refl

pub returns : goal.returns
returns c = c.loop.invariant ∙ looks_end c.args.count c.loop.counter c.loop.looks c.loop.words c.loop-test.false
