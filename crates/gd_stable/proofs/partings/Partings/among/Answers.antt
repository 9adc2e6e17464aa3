use Rattle.std.proofs.Common.{◌∙◌, ap, arith}
use Rattle.gd_reference.specs.SlowSite.{one_if_some}
use Rattle.gd_stable.proofs.Parted.{counting_end, counting_more, counting_start}
use Rattle.gd_stable.proofs.partings.Partings.among.Goals as goal

pub each-init : goal.each-init
each-init c = counting_start _ _

pub at-requires : goal.at-requires
at-requires c = (omega arith, omega (arith, c.requires, c.each-test.true))

pub overflow_add-count : goal.overflow_add-count
overflow_add-count c =
    omega (arith, c.each.invariant.few, c.one_if_some-count.ensures.few, c.requires, c.each-test.true)

pub each-preserved : goal.each-preserved
each-preserved c =
    counting_more _ _ _ _ c.each.invariant (omega (arith, c.each-test.true)) _
    (c.one_if_some-count.ensures.one ∙ ap one_if_some c.at.ensures.count) c.one_if_some-count.ensures.few

pub returns : goal.returns
returns c = counting_end _ _ _ _ c.each.invariant (omega (arith, c.each-test.false))
