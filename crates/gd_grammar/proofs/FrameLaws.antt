-- The laws of the bytes of frames.
use Rattle.std.proofs.Common.{◌≡◌, ◌≢◌, ◌∙◌, ℕ, List, [], ◌∷◌, ◌++◌, length, Ok, sym, ap, append_assoc, arith}
use Rattle.std.proofs.lemmas.List.{append-nil, length-append}
use Rattle.gd_check.specs.Checks.{IsBurst, check}
use Rattle.gd_check.proofs.Bursts.{bursts_found}
use Rattle.gd_check.proofs.Checked.{checked_alike}
use Rattle.gd_grammar.specs.FieldBytes.{AreBytes, check_bytes}
use Rattle.gd_grammar.specs.FrameBytes.{Frame, frame_at, frame, body_bytes, frame_bytes, IsFrame}
use Rattle.gd_grammar.proofs.ByteLemmas.{both, body-are, frame-are}
use Rattle.gd_grammar.proofs.Exact.{result_of, ok_is}
use Rattle.gd_grammar.proofs.ExactFrame.{body-of, exact-frame-at, frame-taken}

abbrev checksum_bytes_of : Frame → List ℕ
checksum_bytes_of f = check_bytes (check 0 (body_bytes f))

-- no frame's bytes are the beginning of another's
pub no-frame-prefix : (f g : Frame) (r s : List ℕ) → IsFrame f → IsFrame g
    → frame_bytes f ++ r ≡ frame_bytes g ++ s → f ≡ g
no-frame-prefix f g r s sound other same =
    let behind_f = checksum_bytes_of f ++ r in
    let behind_g = checksum_bytes_of g ++ s in
    let texts : body_bytes f ++ behind_f ≡ body_bytes g ++ behind_g =
    sym (append_assoc (body_bytes f) (checksum_bytes_of f) r) ∙ same
    ∙ append_assoc (body_bytes g) (checksum_bytes_of g) s in
    let read : result_of (f, behind_f) ≡ result_of (g, behind_g) =
    sym (exact-frame-at.written f behind_f (body-of f sound)) ∙ ap frame_at texts
    ∙ exact-frame-at.written g behind_g (body-of g other) in
    ap (λ (x : Frame × List ℕ). x.0) (ok_is (f, behind_f) (g, behind_g) read)

-- nor is anything behind them read
pub frame-followed : (f g : Frame) (b : ℕ) (rest : List ℕ) → IsFrame f → AreBytes (b ∷ rest)
    → frame (frame_bytes f ++ b ∷ rest) ≢ Ok g
frame-followed f g b rest sound are read =
    let all = both (frame_bytes f) (b ∷ rest) (record { are = frame-are f sound }) (record { are = are }) in
    let took = frame-taken (frame_bytes f ++ b ∷ rest) g all.are read in
    let same = no-frame-prefix f g (b ∷ rest) [] sound took.0 (took.1 ∙ sym (append-nil (frame_bytes g))) in
    let long : length (frame_bytes f ++ b ∷ rest) ≡ length (frame_bytes f) =
    ap (λ (l : List ℕ). length l) took.1 ∙ ap (λ (x : Frame). length (frame_bytes x)) (sym same) in
    omega (arith, long, length-append (frame_bytes f) (b ∷ rest))

-- changes within a row of bits are found
pub change-refused : (f g : Frame) (bytes : List ℕ) → IsFrame f → AreBytes bytes → IsBurst (frame_bytes f) bytes
    → bytes ≢ frame_bytes f → frame bytes ≢ Ok g
change-refused f g bytes sound are burst other read =
    let took = frame-taken bytes g are read in
    let alike : check 0 (frame_bytes f) ≡ check 0 bytes =
    checked_alike (body_bytes f) (body_bytes g) (body-are f sound) (body-are g took.0) ∙ ap (check 0) (sym took.1) in
    other (sym (bursts_found 0 (frame_bytes f) bytes (omega arith) (frame-are f sound) are burst alike))
