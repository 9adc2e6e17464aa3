use Rattle.std.proofs.Common.{◌≡◌, ◌+◌, take}
use Rattle.gd_outside.specs.Texts.{texts_size}
use Rattle.gd_outside.proofs.memory.kept_link.fit.Given as goal

abbrev pub invariant-loop-word : goal.invariant-loop-word
invariant-loop-word l = texts_size (take l.word-index l.words) + l.left ≡ l.room
