use Rattle.std.proofs.Common.{◌+◌}
use Rattle.gd_world.proofs.Following.{follows_drawn, follows_idle, gets_drawn, ready_drawn}
use Rattle.gd_world.proofs.churning.playing.Churning.step.Goals as goal

pub take_line-requires-clause-ready : goal.take_line-requires-clause-ready
take_line-requires-clause-ready g c = ready_drawn 1 c.args.steps.now c.args.self.now c.step.new.generator c.requires

pub returns-in-Some : goal.returns-in-Some
returns-in-Some g c lines slow before follows =
    gets_drawn follows c.as_slice.result.now c.mails-mails.result c.step.new.generator c.as_slice.ensures.value
    c.mails-mails.ensures
    (lines + 1) c.take_line.new.steps c.in-Some.line c.take_line.result c.take_line.new.self c.in-Some.ensures.drawn
    (c.take_line.ensures lines (record slow { generator = c.step.new.generator }) before
    (follows_drawn c.step.new.generator follows))

pub returns-in-None : goal.returns-in-None
returns-in-None g c lines slow before follows =
    follows_idle follows c.as_slice.result.now c.mails-mails.result c.step.new.generator c.as_slice.ensures.value
    c.mails-mails.ensures
    c.add_idle.new.self c.in-None.ensures.drawn c.add_idle.ensures.counted c.add_idle.ensures.few
