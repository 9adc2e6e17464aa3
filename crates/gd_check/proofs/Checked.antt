-- Bytes with their check behind them.
use Rattle.std.proofs.Common.{◌≡◌, ◌∙◌, ℕ, ◌/◌, ◌%◌, ◌^◌, ◌<◌, List, ◌++◌, ap, sym, arith}
use Rattle.std.specs.Int.{w32, to_le_bytes}
use Rattle.std.specs.Int.RustNames.{bit_xor}
use Rattle.std.specs.Int.Bits.{and_self, xor_add_and}
use Rattle.std.proofs.lemmas.Nat.{and-not, xor_comm}
use Rattle.gd_check.specs.Checks.{AreBytes, check, inverted, nexts, with_bytes}
use Rattle.gd_check.proofs.Bursts.{with_bytes-append, with_bytes-lt}
use Rattle.gd_check.proofs.Words.{word, word_falls}

-- a register and its inverse are all ones together
with_inverted : (r : ℕ) → r < 2 ^ 32 → bit_xor r (inverted r) ≡ 0xFFFFFFFF
with_inverted r fits =
    xor_comm r (inverted r) ∙ omega (arith, xor_add_and (inverted r) r, and-not 32 r r fits fits, and_self r)

-- the four bytes of a number are taken in as the number
bytes_fall : (r c : ℕ) → c < 2 ^ 32 → with_bytes r (to_le_bytes w32 c) ≡ nexts 32 (bit_xor r c)
bytes_fall r c fits =
    let whole : word (c % 256) (c / 2 ^ 8 % 256) (c / 2 ^ 16 % 256) (c / 2 ^ 24 % 256) ≡ c = omega arith in
    sym (word_falls r (c % 256) (c / 2 ^ 8 % 256) (c / 2 ^ 16 % 256) (c / 2 ^ 24 % 256)
    (omega arith) (omega arith) (omega arith))
    ∙ ap (λ w. nexts 32 (bit_xor r w)) whole

-- the check of bytes with their check behind them, whichever bytes they are, behind what has that check
checked_is : (c : ℕ) (bytes : List ℕ) → c < 2 ^ 32 → AreBytes bytes
    → check c (bytes ++ to_le_bytes w32 (check c bytes)) ≡ inverted (nexts 32 0xFFFFFFFF)
checked_is c bytes fits are =
    let r = with_bytes (inverted c) bytes in
    let low : r < 2 ^ 32 = with_bytes-lt (inverted c) bytes (omega arith) are in
    ap inverted (
    with_bytes-append (inverted c) bytes (to_le_bytes w32 (inverted r))
    ∙ bytes_fall r (inverted r) (omega arith)
    ∙ ap (nexts 32) (with_inverted r low)
    )

pub checked_alike_behind : (c : ℕ) (a b : List ℕ) → c < 2 ^ 32 → AreBytes a → AreBytes b
    → check c (a ++ to_le_bytes w32 (check c a)) ≡ check c (b ++ to_le_bytes w32 (check c b))
checked_alike_behind c a b fits a_are b_are = checked_is c a fits a_are ∙ sym (checked_is c b fits b_are)

pub checked_alike : (a b : List ℕ) → AreBytes a → AreBytes b
    → check 0 (a ++ to_le_bytes w32 (check 0 a)) ≡ check 0 (b ++ to_le_bytes w32 (check 0 b))
checked_alike a b a_are b_are = checked_alike_behind 0 a b (omega arith) a_are b_are
