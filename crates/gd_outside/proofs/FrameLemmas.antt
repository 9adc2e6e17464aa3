-- Frames whose sites and bytes are held apart.
use Rattle.std.proofs.Common.{◌≡◌, ℕ, ◌+◌, ◌≤◌, List, [], ◌∷◌, ◌++◌, length, get_or, Some, zero, suc, refl, sym, ap}
use Rattle.std.proofs.Common.{◌∙◌, arith}
use Rattle.std.proofs.lemmas.List.Sums.{sum_by-cons}
use Rattle.std.specs.List.{slice_get}
use Rattle.gd_outside.specs.LinkParts.{tried_for}
use Rattle.gd_outside.specs.Links.{one_try}
use Rattle.gd_outside.specs.MemoryLinks.{frames_size}
use Rattle.gd_outside.specs.Seen.{Tried}
use Rattle.gd_outside.specs.Texts.{texts_size}

pub frames_size-tried_for : (sites : List ℕ) (frames : List (List ℕ)) → length sites ≡ length frames
    → frames_size (tried_for sites frames) ≡ texts_size frames
frames_size-tried_for [] [] h = refl
frames_size-tried_for [] (frame ∷ frames) h = cc
frames_size-tried_for (to ∷ sites) [] h = cc
frames_size-tried_for (to ∷ sites) (frame ∷ frames) h =
    sum_by-cons (λ (t : Tried). length t.frame + 1) (record { to = to; frame = frame }) (tried_for sites frames)
    ∙ ap (λ n. length frame + 1 + n) (frames_size-tried_for sites frames (omega (arith, h)))
    ∙ sym (sum_by-cons (λ (f : List ℕ). length f + 1) frame frames)

pub length-tried_for : (sites : List ℕ) (frames : List (List ℕ)) → length sites ≡ length frames
    → length (tried_for sites frames) ≡ length frames
length-tried_for [] [] h = refl
length-tried_for [] (frame ∷ frames) h = cc
length-tried_for (to ∷ sites) [] h = cc
length-tried_for (to ∷ sites) (frame ∷ frames) h = ap suc (length-tried_for sites frames (omega (arith, h)))

pub tried_for-push : (sites : List ℕ) (frames : List (List ℕ)) (to : ℕ) (frame : List ℕ) → length sites ≡ length frames
    → tried_for (sites ++ to ∷ []) (frames ++ frame ∷ []) ≡ tried_for sites frames ++ one_try to frame
tried_for-push [] [] to frame h = refl
tried_for-push [] (f ∷ frames) to frame h = cc
tried_for-push (s ∷ sites) [] to frame h = cc
tried_for-push (s ∷ sites) (f ∷ frames) to frame h =
    ap (λ (ts : List Tried). record { to = s; frame = f } ∷ ts)
    (tried_for-push sites frames to frame (omega (arith, h)))

pub tried_for-at : (sites : List ℕ) (frames : List (List ℕ)) (k to : ℕ) (frame : List ℕ) → length sites ≡ length frames
    → slice_get frames k ≡ Some frame → to ≡ get_or sites k to
    → slice_get (tried_for sites frames) k ≡ Some (record { to = to; frame = frame })
tried_for-at [] [] k to frame h f s = cc
tried_for-at [] (g ∷ frames) k to frame h f s = cc
tried_for-at (t ∷ sites) [] k to frame h f s = cc
tried_for-at (t ∷ sites) (g ∷ frames) zero to frame h f s = cc
tried_for-at (t ∷ sites) (g ∷ frames) (suc k) to frame h f s
    = tried_for-at sites frames k to frame (omega (arith, h)) f s

-- each text takes some of the room
pub length-le-texts_size : (texts : List (List ℕ)) → length texts ≤ texts_size texts
length-le-texts_size [] = omega arith
length-le-texts_size (text ∷ texts)
    = omega (arith, length-le-texts_size texts, sum_by-cons (λ (t : List ℕ). length t + 1) text texts)
