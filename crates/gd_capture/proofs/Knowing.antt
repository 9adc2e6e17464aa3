-- What is known of the sites, one after the other.
use Rattle.std.proofs.Common.{◌≡◌, ℕ, zero, suc, ◌+◌, List, [], ◌∷◌, ◌++◌, add-one, refl, sym, ap, ◌∙◌, arith}
use Rattle.gd_reference.specs.SlowSite.{SlowSite}
use Rattle.gd_snapshots.specs.declared.known.Known.{Known}
use Rattle.gd_viewing.specs.Handing.{known_behind, known_by}

-- that of one site more goes last
pub known_more : (slow : SlowSite) (site k : ℕ)
    → known_behind slow site (suc k) ≡ known_behind slow site k ++ known_by slow (site + suc k) ∷ []
unfolding known_behind
known_more slow site zero = refl
known_more slow site (suc k) =
    let at : site + 1 + suc k ≡ site + suc (suc k) = omega arith in
    ap (λ (l : List Known). known_by slow (site + 1) ∷ l)
    (known_more slow (site + 1) k ∙ ap (λ (n : ℕ). known_behind slow (site + 1) k ++ known_by slow n ∷ []) at)

pub known_none : (slow : SlowSite) (site : ℕ) → [] ≡ known_behind slow site 0
unfolding known_behind
known_none slow site = refl

-- once another one is pushed
pub known_pushed : (slow : SlowSite) (k : ℕ) (known new : List Known) (one : Known) → known ≡ known_behind slow 0 k
    → one ≡ known_by slow (k + 1) → new ≡ known ++ one ∷ [] → new ≡ known_behind slow 0 (k + 1)
known_pushed slow k known new one before is pushed =
    let at : k + 1 ≡ 0 + suc k = omega arith in
    pushed ∙ (λ i. before i ++ is i ∷ []) ∙ ap (λ (n : ℕ). known_behind slow 0 k ++ known_by slow n ∷ []) at
    ∙ sym (known_more slow 0 k) ∙ ap (known_behind slow 0) (sym (add-one k))
