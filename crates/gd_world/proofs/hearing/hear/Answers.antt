use Rattle.std.proofs.Common.{ap}
use Rattle.std.proofs.lemmas.Result.{err_from_is_err_and}
use Rattle.gd_grammar.specs.declared.frame.Head.{Head}
use Rattle.gd_world.proofs.Heard.{hears_all, hears_nothing, hears_parting, hears_why}
use Rattle.gd_world.proofs.hearing.hear.Goals as goal

pub take_frame-requires : goal.take_frame-requires
take_frame-requires g c = (c.requires.0, c.requires.1.site)

pub returns-in-Taken : goal.returns-in-Taken
returns-in-Taken g c slow stands =
    let took = c.in_ok-came.ensures in
    hears_all slow c.args.frame.now _ stands.backs_are (took.stands slow stands.site) _ _
    (took.steps slow stands.site) c.echoes.result c.echoes.ensures.err
    c.in-Taken.heard.items (rw c.in-Taken.is at (took.heard slow stands.site))
    c.events.result.now c.events.ensures.events (rw c.as_slice.ensures.value at c.echoes.ensures.ok)

pub returns-in-Refused : goal.returns-in-Refused
returns-in-Refused g c slow stands =
    let took = c.in_ok-came.ensures in
    hears_why slow c.args.frame.now _ stands.backs_are (took.stands slow stands.site) _ _
    (took.steps slow stands.site) c.only.result c.only.ensures.err
    c.in-Refused.fault (rw c.in-Refused.is at (took.heard slow stands.site)) c.only.ensures.ok

pub returns-in-Parted : goal.returns-in-Parted
returns-in-Parted g c slow stands =
    let took = c.in_ok-came.ensures in
    let only = c.only-in-Parted in
    hears_parting slow c.args.frame.now _ stands.backs_are (took.stands slow stands.site) _ _
    (took.steps slow stands.site) only.result only.ensures.err
    c.in-Parted.count c.head-head.result.from (rw c.in-Parted.is at (took.heard slow stands.site))
    (ap (λ (h : Head). h.from) c.head-head.ensures.head) only.ensures.ok

pub returns-in-Passed : goal.returns-in-Passed
returns-in-Passed g c slow stands =
    let took = c.in_ok-came.ensures in
    hears_nothing slow c.args.frame.now _ stands.backs_are (took.stands slow stands.site) _ _
    (took.steps slow stands.site) (rw c.in-Passed.is at (took.heard slow stands.site)) _ c.new.ensures

pub returns-in_err-came : goal.returns-in_err-came
returns-in_err-came g c slow stands =
    let fault = err_from_is_err_and c.from_residual.result c.from_residual.ensures.1 in
    rw (fault.1, fault.2) (c.in_err-came.ensures.err_steps slow stands.site)
