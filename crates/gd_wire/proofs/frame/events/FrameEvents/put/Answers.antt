use Rattle.std.proofs.Common.{arith}
use Rattle.gd_wire.proofs.frame.events.FrameEvents.put.Goals as goal

pub overflow_add-self : goal.overflow_add-self
overflow_add-self c = omega (arith, c.self.invariant.counted, c.self.invariant.fits)
