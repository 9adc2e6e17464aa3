-- What a crash leaves at each moment of a run of calls: how runs begin, go on and join.
use Rattle.std.proofs.Common.{◌≡◌, ◌⊎◌, inl, inr, ⊎_elim, ℕ, ◌≤◌, List, [], ◌∷◌, ◌++◌, length, refl, sym, ap, ◌∙◌}
use Rattle.std.proofs.Common.{subst, arith, append_assoc, length-append}
use Rattle.gd_outside.specs.Disk.{Images, Disk, IsImage, HadImage, LeavesOnly, clock, goes_on}

-- ---- moments

had_either : (moments more : List Images) (image : List ℕ) → HadImage (moments ++ more) image
    → HadImage moments image ⊎ HadImage more image
had_either [] more image had = inr had
had_either (m ∷ moments) more image (inl here) = inl (inl here)
had_either (m ∷ moments) more image (inr there)
    = ⊎_elim (λ had. inl (inr had)) (λ had. inr had) (had_either moments more image there)

had_last : (moments : List Images) (last : Images) (image : List ℕ) → IsImage last image
    → HadImage (moments ++ last ∷ []) image
had_last [] last image is = inl is
had_last (m ∷ moments) last image is = inr (had_last moments last image is)

-- the last of all moments is one of those from the first of a run on
had_since : (before past more : List Images) (first last : Images) (image : List ℕ)
    → before ++ last ∷ [] ≡ past ++ first ∷ more
    → IsImage last image → HadImage (first ∷ more) image
had_since before [] more first last image e is
    = subst (λ (moments : List Images). HadImage moments image) e (had_last before last image is)
had_since [] (p ∷ past) more first last image e is
    = absurd (omega (arith, ap length e, length-append past (first ∷ more)))
had_since (b ∷ before) (p ∷ past) more first last image e is = had_since before past more first last image (cc) is

-- ---- runs

-- before the first call
pub leaves_now : (d : Disk) (P : List ℕ → Type 0) → ((image : List ℕ) → IsImage d.now image → P image)
    → LeavesOnly d d P
leaves_now d P here = record {
  more = [];
  later = refl;
  each = λ image had. ⊎_elim (here image) (λ none. absurd none) had;
}

-- one call more
pub leaves_then : (old mid : Disk) (images : Images) (P : List ℕ → Type 0) → LeavesOnly old mid P
    → ((image : List ℕ) → IsImage images image → P image) → LeavesOnly old (goes_on mid images) P
leaves_then old mid images P so_far here = record {
  more = so_far.more ++ images ∷ [];
  later = ap (λ (moments : List Images). moments ++ images ∷ []) so_far.later
      ∙ append_assoc old.past (old.now ∷ so_far.more) (images ∷ []);
  each = λ image had. ⊎_elim (so_far.each image) (λ last. ⊎_elim (here image) (λ none. absurd none) last)
      (had_either (old.now ∷ so_far.more) (images ∷ []) image had);
}

-- one run behind another
pub leaves_both : (old mid new : Disk) (P : List ℕ → Type 0) → LeavesOnly old mid P → LeavesOnly mid new P
    → LeavesOnly old new P
leaves_both old mid new P first second = record {
  more = first.more ++ second.more;
  later = second.later ∙ sym (append_assoc mid.past (mid.now ∷ []) second.more)
      ∙ ap (λ (moments : List Images). moments ++ second.more) first.later
      ∙ append_assoc old.past (old.now ∷ first.more) second.more;
  each = λ image had. ⊎_elim (first.each image) (λ later. second.each image (inr later))
      (had_either (old.now ∷ first.more) second.more image had);
}

-- a run that leaves only what has P leaves only what has Q
pub leaves_as : (old new : Disk) (P Q : List ℕ → Type 0) → ((image : List ℕ) → P image → Q image) → LeavesOnly old new P
    → LeavesOnly old new Q
leaves_as old new P Q as_q run = record {
  more = run.more;
  later = run.later;
  each = λ image had. as_q image (run.each image had);
}

-- what a crash at the last moment leaves, and one at the first
pub leaves_last : (old new : Disk) (P : List ℕ → Type 0) → LeavesOnly old new P → (image : List ℕ)
    → IsImage new.now image → P image
leaves_last old new P run image is
    = run.each image (had_since new.past old.past run.more old.now new.now image run.later is)

pub leaves_first : (old new : Disk) (P : List ℕ → Type 0) → LeavesOnly old new P → (image : List ℕ)
    → IsImage old.now image → P image
leaves_first old new P run image is = run.each image (inl is)

pub later_clock : (old new : Disk) (P : List ℕ → Type 0) → LeavesOnly old new P → clock old ≤ clock new
later_clock old new P run
    = omega (
      arith,
      ap length run.later,
      length-append new.past (new.now ∷ []),
      length-append old.past
          (old.now ∷ run.more),
    )
