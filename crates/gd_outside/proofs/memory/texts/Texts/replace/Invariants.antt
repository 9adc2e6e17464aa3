use Rattle.std.proofs.Common.{◌≡◌, take}
use Rattle.gd_outside.proofs.memory.texts.Texts.replace.Given as goal

abbrev pub invariant-loop-word : goal.invariant-loop-word
invariant-loop-word l = l.self ≡ record l.fn.self { texts = take l.word-index l.words }
