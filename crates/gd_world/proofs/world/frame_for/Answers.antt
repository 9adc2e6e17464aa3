use Rattle.std.proofs.Common.{◌∙◌}
use Rattle.gd_world.proofs.ReadBack.{reads_it, refuses_none}
use Rattle.gd_world.proofs.world.frame_for.Goals as goal

pub unreachable-requires : goal.unreachable-requires
unreachable-requires c =
    let i = c.stands.ensures in
    let fault = rw c.in-Err-Fault.field-0-is at c.in-Err-Fault.ensures.read in
    absurd (refuses_none i.slow _ i.stands c.args.to c.requires c.as_slice.result.now
    (c.as_slice.ensures.bytes ∙ c.write_frame.ensures.bytes i.slow i.stands) fault.0 fault.1)

pub returns-in-Ok : goal.returns-in-Ok
returns-in-Ok c slow stands =
    reads_it slow _ stands c.args.to c.requires c.as_slice.result.now
    (c.as_slice.ensures.bytes ∙ c.write_frame.ensures.bytes slow stands) c.in-Ok.frame c.in-Ok.ensures.read
