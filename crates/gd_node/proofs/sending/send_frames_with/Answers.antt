use Rattle.std.proofs.Common.{sym}
use Rattle.gd_effects.proofs.Doing.{does_as, does_nothing}
use Rattle.gd_node.proofs.Links.{takes_none}
use Rattle.gd_node.proofs.SlowFrames.{tries_none, tries_some}
use Rattle.gd_reference.specs.TakeBack.{with_events}
use Rattle.gd_node.proofs.sending.send_frames_with.Goals as goal

pub returns-then-is_empty-clause-sends : goal.returns-then-is_empty-clause-sends
returns-then-is_empty-clause-sends g c slow stands input output journal steps
    = does_as (tries_none slow c.args.events.now (sym c.if-is_empty.ensures)) (does_nothing _)

pub returns-then-is_empty-clause-takes : goal.returns-then-is_empty-clause-takes
returns-then-is_empty-clause-takes g c = takes_none _

pub returns-clause-sends : goal.returns-clause-sends
returns-clause-sends g c slow stands input output journal steps =
    let es = c.args.events.now in
    does_as (tries_some slow es (sym c.if-is_empty.ensures))
    (c.send_newest.ensures.sends (with_events slow es) stands input output journal steps)
