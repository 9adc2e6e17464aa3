use Rattle.std.proofs.Common.{rules}
use Rattle.std.proofs.lemmas.Option.{slice_get_within}
use Rattle.gd_outside.proofs.FrameLemmas.{length-tried_for, tried_for-at}
use Rattle.gd_outside.proofs.memory.frames.Frames.get.Goals as goal

pub returns-in_err-frame-clause-none : goal.returns-in_err-frame-clause-none
returns-in_err-frame-clause-none c = search (rules, length-tried_for)

pub index-requires : goal.index-requires
index-requires c = search (rules, slice_get_within)

pub returns-clause-frame : goal.returns-clause-frame
returns-clause-frame c = search (rules, tried_for-at)
