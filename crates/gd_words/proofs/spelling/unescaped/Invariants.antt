use Rattle.std.proofs.Common.{◌≡◌, false, drop}
use Rattle.gd_lines.specs.WordKinds.{unescaped}
use Rattle.gd_words.specs.Told.{typed_with}
use Rattle.gd_words.proofs.spelling.unescaped.Given as goal

abbrev pub invariant-loop-byte : goal.invariant-loop-byte
invariant-loop-byte l = unescaped false l.fn.text ≡ typed_with l.bytes.items l.is_behind (drop l.byte-index l.fn.text)
