use Rattle.std.proofs.Common.{take}
use Rattle.gd_real.specs.Addresses.{AreWritten}
use Rattle.gd_real.proofs.socket.read_addresses.Given as goal

abbrev pub invariant-loop-word : goal.invariant-loop-word
invariant-loop-word l = AreWritten (take l.word-index l.words) l.addresses.items
