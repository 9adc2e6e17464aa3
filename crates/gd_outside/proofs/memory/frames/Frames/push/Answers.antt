use Rattle.std.proofs.Common.{rules}
use Rattle.gd_outside.proofs.FrameLemmas.{frames_size-tried_for, length-le-texts_size, tried_for-push}
use Rattle.gd_outside.proofs.memory.frames.Frames.push.Goals as goal

pub unwrap-requires : goal.unwrap-requires
unwrap-requires c = search (rules, frames_size-tried_for, length-le-texts_size)

pub push-requires-2 : goal.push-requires-2
push-requires-2 c = search (rules, frames_size-tried_for)

pub returns : goal.returns
returns c = search (rules, tried_for-push)
