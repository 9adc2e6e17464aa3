use Rattle.std.proofs.Common.{◌≡◌, arith}
use Rattle.gd_words.proofs.Escapes.{typed_mark}
use Rattle.gd_words.proofs.spelling.push_unmarked.Goals as goal

pub returns-clause-pushed : goal.returns-clause-pushed
returns-clause-pushed c = let mark : c.args.byte
    ≡ 92 = omega arith in typed_mark c.args.bytes.now.items c.args.byte mark
