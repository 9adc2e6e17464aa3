use Rattle.std.proofs.Common.{◌∙◌}
use Rattle.gd_model.specs.Objects.{laid_over, part_within}
use Rattle.gd_canvas.proofs.SwapLemmas.{first_passed, second_passed}
use Rattle.gd_canvas.proofs.swap.pass_on.Goals as goal

pub returns-clause-first : goal.returns-clause-first
returns-clause-first c =
    first_passed c.args.s c.args.earlier.now c.args.later.now c.keep_one.new.self c.keep_one.result
    c.passed-both.result.0 c.requires.parts
    (c.passed-both.ensures.first ∙ (λ i. part_within (c.stored-new.ensures i) (c.take_old-found.ensures.old i)))
    c.keep_one.ensures.found

pub returns-clause-second : goal.returns-clause-second
returns-clause-second c =
    second_passed c.args.s c.args.earlier.now c.args.later.now c.take_old-found.new.self c.keep_one-2.new.self
    c.keep_one-2.result c.passed-both.result.1 c.requires.parts
    c.take_old-found.ensures.op
    (c.passed-both.ensures.second ∙ (λ i. laid_over (c.stored-new.ensures i) (c.take_old-found.ensures.old i)))
    c.keep_one-2.ensures.found
