use Rattle.std.proofs.Common.{rules}
use Rattle.gd_outside.proofs.FrameLemmas.{frames_size-tried_for}
use Rattle.gd_outside.proofs.memory.frames.Frames.size.Goals as goal

pub returns-clause-size : goal.returns-clause-size
returns-clause-size c = search (rules, frames_size-tried_for)
