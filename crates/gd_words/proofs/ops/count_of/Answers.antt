use Rattle.std.proofs.Common.{arith}
use Rattle.gd_words.proofs.Parts.{parts_counted}
use Rattle.gd_words.proofs.ops.count_of.Goals as goal

pub returns : goal.returns
returns c = omega (arith, parts_counted c.args.looks.now)
