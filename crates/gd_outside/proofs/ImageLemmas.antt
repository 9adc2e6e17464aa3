-- The contents of a journal in memory, and each image that it makes, are what a crash may leave.
use Rattle.std.proofs.Common.{◌≡◌, ℕ, ◌+◌, ◌-◌, ◌≤◌, Bool, ltb, true, false, cond, List, [], ◌∷◌, ◌++◌, length, take}
use Rattle.std.proofs.Common.{drop, refl, sym, ap, ◌∙◌, inl, inr, arith, append_assoc, length-append, length-drop}
use Rattle.std.proofs.Common.{eq-eqb}
use Rattle.std.specs.Prelude.{min, nat_lt, fold, replicate}
use Rattle.std.proofs.lemmas.Bool.{ltb-true, ltb-false, lt-ltb}
use Rattle.std.proofs.lemmas.List.{length-take, length-replicate, take_all, take_at, drop_all, drop_at}
use Rattle.std.proofs.lemmas.List.Sums.{sum_by-cons}
use Rattle.gd_outside.specs.declared.memory.mark.Kind.{Kind}
use Rattle.gd_outside.specs.declared.memory.mark.Kind.TheVariants.{Created, NotCreated, Put, NotPut, Synced}
use Rattle.gd_outside.specs.Disk.{IsImage, IsTorn}
use Rattle.gd_outside.specs.Journals.{put_at, IsWholeByte}
use Rattle.gd_outside.specs.declared.memory.mark.Mark.{Mark}
use Rattle.gd_outside.specs.Records.{DiskCall, Recorded, State, Shot, calls_of, after_kind, after_call, at_first}
use Rattle.gd_outside.specs.Records.{contents_of, disk_of, first_shot, image_of, is_byte_over, landed, pieces_size}
use Rattle.gd_outside.specs.Records.{shot_kind, shot_after}
use Rattle.gd_outside.proofs.RecordLemmas.{calls_of-size, marks_size}

length-put_at : (old piece : List ℕ) (pos : ℕ)
    → length (put_at old pos piece) ≡ min pos (length old) + length piece + (length old - (pos + length piece))
length-put_at old piece pos =
    omega (
      arith,
      length-append (take pos old ++ piece) (drop (pos + length piece) old),
      length-append (take pos old)
          piece,
      length-take pos old,
      length-drop (pos + length piece) old,
    )

-- ---- a write that succeeded, or that failed and left all as it was

put-behind : (old piece : List ℕ) (pos : ℕ) (short : Bool) → ltb (length old) pos ≡ short
    → drop (pos + length piece) (put_at old pos piece) ≡ drop (pos + length piece) old
put-behind old piece pos true e =
    let less = ltb-true _ _ e in
    drop_all (pos + length piece) (put_at old pos piece) (omega (arith, length-put_at old piece pos))
    ∙ sym (drop_all (pos + length piece) old (omega arith))
put-behind old piece pos false e =
    let more = ltb-false _ _ e in
    drop_at (take pos old ++ piece) (drop (pos + length piece) old) (pos + length piece)
    (omega (arith, length-append (take pos old) piece, length-take pos old))

put-front : (old piece : List ℕ) (pos : ℕ) → take (min pos (length old)) (put_at old pos piece) ≡ take pos old
put-front old piece pos =
    let behind = drop (pos + length piece) old in
    ap (λ (l : List ℕ). take (min pos (length old)) l) (append_assoc (take pos old) piece behind)
    ∙ take_at (take pos old) (piece ++ behind) (min pos (length old)) (length-take pos old)

-- some bytes at a place leave what the write of a piece of as many may leave, where the piece is no byte over another
-- one
fill-torn : (old piece filled : List ℕ) (pos : ℕ) → length filled ≡ length piece
    → IsWholeByte old pos piece (put_at old pos filled) → IsTorn pos piece old (put_at old pos filled)
fill-torn old piece filled pos long byte = record {
  before = put-front old filled pos;
  behind = rw (← long) (put-behind old filled pos (ltb (length old) pos) refl);
  no_shorter = omega (arith, length-put_at old filled pos);
  byte = byte;
}

-- and so does the piece itself
put-torn : (old piece : List ℕ) (pos : ℕ) → IsTorn pos piece old (put_at old pos piece)
put-torn old piece pos = fill-torn old piece piece pos refl (λ one inside. inr refl)

same-front : (old : List ℕ) (pos : ℕ) (short : Bool) → ltb (length old) pos ≡ short
    → take (min pos (length old)) old ≡ take pos old
same-front old pos true e =
    let less = ltb-true _ _ e in
    take_all (min pos (length old)) old (omega arith) ∙ sym (take_all pos old (omega arith))
same-front old pos false e =
    let more = ltb-false _ _ e in
    ap (λ (n : ℕ). take n old) (omega arith)

same-torn : (old : List ℕ) (pos : ℕ) (piece : List ℕ) → IsTorn pos piece old old
same-torn old pos piece = record {
  before = same-front old pos (ltb (length old) pos) refl;
  behind = refl;
  no_shorter = omega arith;
  byte = λ one inside. inl refl;
}

-- ---- the contents

abbrev IsNow : State → Type 0
IsNow s = IsImage s.disk.now s.contents

now-kind : (kind : Kind) (s : State) (pos : ℕ) (piece : List ℕ) → IsNow s → IsNow (after_kind kind s pos piece)
now-kind Created s pos piece now = tt
now-kind NotCreated s pos piece now = tt
now-kind Put s pos piece now = (s.contents, now, put-torn s.contents piece pos)
now-kind NotPut s pos piece now = (s.contents, now, same-torn s.contents pos piece)
now-kind Synced s pos piece now = refl

now-calls : (calls : List DiskCall) (s : State) → IsNow s → IsNow (fold after_call s calls)
now-calls [] s now = now
now-calls (call ∷ calls) s now = now-calls calls (after_call s call) (now-kind call.kind s call.pos call.piece now)

-- the contents are an image of a crash now
pub contents-is : (calls : List DiskCall) → IsImage (disk_of calls).now (contents_of calls)
contents-is calls = now-calls calls at_first refl

-- ---- one image

-- a piece that is no byte over another one
no-byte : (old : List ℕ) (pos : ℕ) (piece new : List ℕ) → is_byte_over old pos piece ≡ false
    → IsWholeByte old pos piece new
no-byte old pos piece new not one inside =
    absurd (let e = rw (eq-eqb (length piece) 1 one, lt-ltb pos (length old) inside) at not in cc)

-- one byte alone in the range of the piece
abbrev filled : Shot → List ℕ → List ℕ
filled s piece = replicate (length piece) s.fill

landed-torn : (s : Shot) (piece : List ℕ) (pos : ℕ) → IsTorn pos piece s.image (landed s pos piece)
landed-torn s piece pos = by (nat_lt s.count s.whole) (is_byte_over s.image pos piece) refl where
  by : (whole over : Bool) → is_byte_over s.image pos piece ≡ over
      → IsTorn pos piece s.image (cond whole (put_at s.image pos piece)
      (cond over s.image (put_at s.image pos (filled s piece))))
  by true over e = put-torn s.image piece pos
  by false true e = same-torn s.image pos piece
  by false false e =
      fill-torn s.image piece (filled s piece) pos (length-replicate (length piece) s.fill)
      (no-byte s.image pos piece (put_at s.image pos (filled s piece)) e)

-- the contents are alike, and the image is one of those now
record Fits (s : State) (t : Shot) : Type 0 where
  same : s.contents ≡ t.contents
  image : IsImage s.disk.now t.image

fits-kind : (kind : Kind) (s : State) (t : Shot) (pos : ℕ) (piece : List ℕ) → Fits s t
    → Fits (after_kind kind s pos piece) (shot_kind kind t pos piece)
fits-kind Created s t pos piece f = record { same = refl; image = tt }
fits-kind NotCreated s t pos piece f = record { same = f.same; image = tt }
fits-kind Put s t pos piece f = record {
  same = ap (λ (l : List ℕ). put_at l pos piece) f.same;
  image = (t.image, f.image, landed-torn t piece pos);
}
fits-kind NotPut s t pos piece f = record { same = f.same; image = (t.image, f.image, landed-torn t piece pos) }
fits-kind Synced s t pos piece f = record { same = f.same; image = sym f.same }

fits-calls : (calls : List DiskCall) (s : State) (t : Shot) → Fits s t
    → Fits (fold after_call s calls) (fold shot_after t calls)
fits-calls [] s t f = f
fits-calls (call ∷ calls) s t f
    = fits-calls calls (after_call s call) (shot_after t call) (fits-kind call.kind s t call.pos call.piece f)

pub image-is : (k fill : ℕ) (calls : List DiskCall) → IsImage (disk_of calls).now (image_of k fill calls)
image-is k fill calls = (fits-calls calls at_first (first_shot k fill) (record { same = refl; image = refl })).image

-- ---- its length

-- neither the contents nor the image is longer than all pieces together
record Short (size : ℕ) (s : Shot) : Type 0 where
  contents : length s.contents ≤ size
  image : length s.image ≤ size

short-landed : (s : Shot) (pos : ℕ) (piece : List ℕ) (size : ℕ) → length s.image ≤ size
    → length (landed s pos piece) ≤ size + length piece
short-landed s pos piece size h = by (nat_lt s.count s.whole) (is_byte_over s.image pos piece) where
  by : (whole over : Bool)
      → length (cond whole (put_at s.image pos piece)
      (cond over s.image (put_at s.image pos (filled s piece)))) ≤ size + length piece
  by true over = omega (arith, h, length-put_at s.image piece pos)
  by false true = omega (arith, h)
  by false false = omega (arith, h, length-put_at s.image (filled s piece) pos, length-replicate (length piece) s.fill)

short-kind : (kind : Kind) (s : Shot) (pos : ℕ) (piece : List ℕ) (size : ℕ) → Short size s
    → Short (size + length piece) (shot_kind kind s pos piece)
short-kind Created s pos piece size f = record { contents = omega arith; image = omega arith }
short-kind NotCreated s pos piece size f
    = record { contents = omega (arith, f.contents); image = omega (arith, f.image) }
short-kind Put s pos piece size f = record {
  contents = omega (arith, f.contents, length-put_at s.contents piece pos);
  image = short-landed s pos piece size f.image;
}
short-kind NotPut s pos piece size f = record {
  contents = omega (arith, f.contents);
  image = short-landed s pos piece size f.image;
}
short-kind Synced s pos piece size f
    = record { contents = omega (arith, f.contents); image = omega (arith, f.contents) }

short-calls : (calls : List DiskCall) (s : Shot) (size : ℕ) → Short size s
    → length (fold shot_after s calls).image ≤ size + pieces_size calls
short-calls [] s size f = omega (arith, f.image)
short-calls (call ∷ calls) s size f =
    omega (
      arith,
      short-calls calls (shot_after s call) (size + length call.piece)
          (short-kind call.kind s call.pos call.piece size f),
      sum_by-cons (λ (c : DiskCall). length c.piece) call calls,
    )

pub length-image_of : (k fill : ℕ) (calls : List DiskCall) → length (image_of k fill calls) ≤ pieces_size calls
length-image_of k fill calls
    = omega (arith, short-calls calls (first_shot k fill) 0 (record { contents = omega arith; image = omega arith }))

-- the image of a record fits into its room
pub image-fits : (r : Recorded) (marks : List Mark) (pieces : List ℕ) (room k fill : ℕ)
    → record { calls = calls_of marks pieces; room = room } ≡ r → marks_size marks ≡ length pieces
    → length pieces ≤ room → length (image_of k fill r.calls) ≤ r.room
image-fits r marks pieces room k fill v h few =
    rw (← v) (omega (arith, length-image_of k fill (calls_of marks pieces), calls_of-size marks pieces h, few))
