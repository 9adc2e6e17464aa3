-- Texts that were appended one behind the other.
use Rattle.std.proofs.Common.{◌≡◌, ℕ, List, ◌++◌, append_assoc}

pub five_more : (t a b c d e : List ℕ) → t ++ a ++ b ++ c ++ d ++ e ≡ t ++ (a ++ b ++ c ++ d ++ e)
five_more t a b c d e = simp append_assoc

pub eight_more : (t a b c d e f g h : List ℕ)
    → t ++ a ++ b ++ c ++ d ++ e ++ f ++ g ++ h ≡ t ++ (a ++ b ++ c ++ d ++ e ++ f ++ g ++ h)
eight_more t a b c d e f g h = simp append_assoc
