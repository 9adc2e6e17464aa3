use Rattle.std.proofs.Common.{◌∙◌, sym}
use Rattle.gd_judging.proofs.Grouping.{apart_not, apart_on}
use Rattle.gd_judging.proofs.groups.are_apart.Goals as goal

pub returns-then-not-is_new : goal.returns-then-not-is_new
returns-then-not-is_new c =
    sym (apart_not c.args.named.now c.loop-k.k c.index-named-k.result c.loop-k-test.true c.is_new.result
    (sym c.is_new.ensures) c.if-not-is_new.true)
    ∙ c.loop-k.invariant

pub loop-k-preserved : goal.loop-k-preserved
loop-k-preserved c =
    apart_on c.args.named.now c.loop-k.k c.index-named-k.result c.loop-k-test.true c.is_new.result
    (sym c.is_new.ensures) c.if-not-is_new.false
    ∙ c.loop-k.invariant
