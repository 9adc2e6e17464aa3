use Rattle.std.proofs.Common.{◌≡◌, ◌∙◌, ap, ap₂, arith}
use Rattle.std.specs.Int.RustNames.{bit_xor}
use Rattle.gd_check.specs.Checks.{nexts}
use Rattle.gd_check.proofs.Words.{word, words_fall}
use Rattle.gd_check.proofs.register.with_eight.Goals as goal

pub returns : goal.returns
returns c =
    let r = c.args.register in
    let first = c.from_le_bytes-first.result in
    let second = c.from_le_bytes-second.result in
    let first_is : first ≡ word c.args.a c.args.b c.args.c c.args.d = c.from_le_bytes-first.ensures ∙ omega arith in
    let second_is : second ≡ word c.args.e c.args.f c.args.g c.args.h = c.from_le_bytes-second.ensures ∙ omega arith in
    ap₂ bit_xor
    (c.with_eight_zeros.ensures ∙ ap (λ w. nexts 64 (bit_xor r w)) first_is)
    (c.with_four_zeros-behind.ensures ∙ ap (nexts 32) second_is)
    ∙ words_fall r c.args.a c.args.b c.args.c c.args.d c.args.e c.args.f c.args.g c.args.h
    (omega arith) (omega arith) (omega arith) (omega arith) (omega arith) (omega arith)
