-- A world in memory that has a site isn't spent.
use Rattle.std.proofs.Common.{◌≡◌, ℕ, true, length, ap, arith, inl, inr}
use Rattle.std.specs.Prelude.{Result, Ok, Err, OnOk}
use Rattle.std.specs.Result.{is_err}
use Rattle.gd_base.proofs.SiteLemmas.{is_site-bounds}
use Rattle.gd_base.specs.Sites.{is_site}
use Rattle.gd_world.specs.Standing.{HasWorld, IsKept, WorldValue}

pub has_site : (v now : WorldValue) → v ≡ now → (site : ℕ) → is_site (length now.members) site ≡ true → IsKept v
    → HasWorld v
has_site v now view site inside (inl h) = h
has_site v now view site inside (inr spent) =
    let bounds = is_site-bounds (length now.members) site inside in
    absurd (omega (arith, bounds.0, bounds.1, ap (λ (x : WorldValue). length x.members) view, ap length spent.members))

-- where it failed nothing is owed of an `Ok`
pub on_err : {T E : Type 0} (P : Type 0) (r : Result T E) → is_err r ≡ true → OnOk r P
on_err P (Ok v) e = cc
on_err P (Err fault) e = tt
