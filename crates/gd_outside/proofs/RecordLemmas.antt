-- A record of calls, kept as marks, and their pieces one behind the other.
use Rattle.std.proofs.Common.{◌≡◌, ℕ, ◌+◌, ◌-◌, ◌<◌, ◌≤◌, true, ◌&&◌, nat_lt, List, [], ◌∷◌, ◌++◌, length, take, drop}
use Rattle.std.proofs.Common.{refl, sym, ap, ◌∙◌, arith, length-append, length-drop}
use Rattle.std.specs.Prelude.{IsTrue, nat_le, sum_by}
use Rattle.std.proofs.lemmas.Bool.{and_parts, ltb-true, leb-true}
use Rattle.std.proofs.lemmas.Bool.Decides.{nat_tests}
use Rattle.std.proofs.lemmas.List.{take_all, take-append-le, drop-append-le, length-take-le}
use Rattle.std.proofs.lemmas.List.Sums.{sum_by-cons, sum_by-append}
use Rattle.gd_outside.specs.declared.memory.mark.Mark.{Mark}
use Rattle.gd_outside.specs.Records.{DiskCall, Recorded, done, calls_of, fits_record, pieces_size}

abbrev pub marks_size : List Mark → ℕ
marks_size marks = sum_by (λ m. m.len) marks

calls_of-length : (marks : List Mark) (pieces : List ℕ) → length (calls_of marks pieces) ≡ length marks
calls_of-length [] pieces = refl
calls_of-length (m ∷ marks) pieces = omega (arith, calls_of-length marks (drop m.len pieces))

pub calls_of-size : (marks : List Mark) (pieces : List ℕ) → marks_size marks ≡ length pieces
    → pieces_size (calls_of marks pieces) ≡ length pieces
calls_of-size [] pieces h = h
calls_of-size (m ∷ marks) pieces h =
    let all : m.len + marks_size marks ≡ length pieces = sym (sum_by-cons (λ n. n.len) m marks) ∙ h in
    let rest = calls_of-size marks (drop m.len pieces) (omega (arith, all, length-drop m.len pieces)) in
    sum_by-cons (λ call. length call.piece) (done m.kind m.pos (take m.len pieces)) (calls_of marks (drop m.len pieces))
    ∙ omega (arith, all, rest, length-take-le m.len pieces (omega (arith, all)), length-drop m.len pieces)

calls_of-push : (marks : List Mark) (pieces piece : List ℕ) (m : Mark) → marks_size marks ≡ length pieces
    → m.len ≡ length piece
    → calls_of (marks ++ m ∷ []) (pieces ++ piece) ≡ calls_of marks pieces ++ done m.kind m.pos piece ∷ []
calls_of-push [] [] piece m h k = ap (λ (p : List ℕ). done m.kind m.pos p ∷ []) (take_all m.len piece (omega arith))
calls_of-push [] (b ∷ pieces) piece m h k = absurd (omega arith)
calls_of-push (n ∷ marks) pieces piece m h k =
    let all : n.len + marks_size marks ≡ length pieces = sym (sum_by-cons (λ o. o.len) n marks) ∙ h in
    let front : take n.len (pieces ++ piece)
    ≡ take n.len pieces = take-append-le n.len pieces piece (omega (arith, all)) in
    let rest : drop n.len (pieces ++ piece)
    ≡ drop n.len pieces ++ piece = drop-append-le n.len pieces piece (omega (arith, all)) in
    rw (front, rest) (ap (λ (l : List DiskCall). done n.kind n.pos (take n.len pieces) ∷ l)
    (calls_of-push marks (drop n.len pieces) piece m (omega (arith, all, length-drop n.len pieces)) k))

-- ---- what fits

fits-parts : (marks : List Mark) (pieces : List ℕ) (room len : ℕ) → marks_size marks ≡ length pieces
    → fits_record room (calls_of marks pieces) len
    ≡ (nat_lt (length marks) (room + 3) && nat_le (length pieces + len) room)
fits-parts marks pieces room len h = rw (calls_of-length marks pieces, calls_of-size marks pieces h) refl

pub fits-few : (r : Recorded) (marks : List Mark) (pieces : List ℕ) (room len n k : ℕ)
    → record { calls = calls_of marks pieces; room = room } ≡ r → marks_size marks ≡ length pieces
    → length pieces ≤ room → n ≡ length marks → n < room + 3 → k ≡ length pieces
    → nat_le len (room - k) ≡ fits_record r.room r.calls len
fits-few r marks pieces room len n k v h few e lt f
    = rw (← v, fits-parts marks pieces room len h, f) (grind (arith, nat_tests))

pub fits-full : (r : Recorded) (marks : List Mark) (pieces : List ℕ) (room len n : ℕ)
    → record { calls = calls_of marks pieces; room = room } ≡ r → marks_size marks ≡ length pieces
    → n ≡ length marks → room + 3 ≤ n → nat_lt n (room + 3) ≡ fits_record r.room r.calls len
fits-full r marks pieces room len n v h e le
    = rw (← v, fits-parts marks pieces room len h, e) (grind (arith, nat_tests))

pub fits-room : (r : Recorded) (marks : List Mark) (pieces : List ℕ) (room len : ℕ)
    → record { calls = calls_of marks pieces; room = room } ≡ r → marks_size marks ≡ length pieces
    → IsTrue (fits_record r.room r.calls len) → (length marks < room + 3) × (length pieces + len ≤ room)
fits-room r marks pieces room len v h fits =
    let at : nat_lt (length marks) (room + 3) && nat_le (length pieces + len) room
    ≡ true = sym (fits-parts marks pieces room len h) ∙ (rw (← v) at fits) in
    let parts = and_parts (nat_lt (length marks) (room + 3)) (nat_le (length pieces + len) room) at in
    (ltb-true _ _ parts.0, leb-true _ _ parts.1)

-- ---- one more call

-- as a mark and its piece it is one more call of the record
pub record-push : (r : Recorded) (marks marks' : List Mark) (pieces pieces' piece : List ℕ) (room : ℕ) (m : Mark)
    → record { calls = calls_of marks pieces; room = room } ≡ r → marks_size marks ≡ length pieces
    → m.len ≡ length piece → marks' ≡ marks ++ m ∷ [] → pieces' ≡ pieces ++ piece
    → record { calls = calls_of marks' pieces'; room = room }
    ≡ record r { calls = r.calls ++ done m.kind m.pos piece ∷ [] }
record-push r marks marks' pieces pieces' piece room m v h k p q
    = rw (← v, p, q, calls_of-push marks pieces piece m h k) refl

pub marks_size-push : (marks marks' : List Mark) (pieces pieces' piece : List ℕ) (m : Mark)
    → marks_size marks ≡ length pieces → m.len ≡ length piece → marks' ≡ marks ++ m ∷ [] → pieces' ≡ pieces ++ piece
    → marks_size marks' ≡ length pieces'
marks_size-push marks marks' pieces pieces' piece m h k p q =
    rw (p, q) (omega (arith, h, k, sum_by-append (λ n. n.len) marks (m ∷ []), length-append pieces piece))

pub pieces-fit : (pieces pieces' piece : List ℕ) (room : ℕ) → length pieces + length piece ≤ room
    → pieces' ≡ pieces ++ piece → length pieces' ≤ room
pieces-fit pieces pieces' piece room h q = rw q (omega (arith, length-append pieces piece))
