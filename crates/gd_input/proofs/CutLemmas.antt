-- Where a line ends, and what is cut off the front of bytes.
use Rattle.std.proofs.Common.{◌≡◌, ◌≢◌, ℕ, suc, ◌+◌, ◌-◌, ◌<◌, ◌≤◌, List, ◌∷◌, ◌++◌, length, take, drop, get_or, Option}
use Rattle.std.proofs.Common.{Some, None, MatchOption, sym, ◌∙◌, ap, arith, add-one, ⊎_elim}
use Rattle.std.proofs.Math.Seq.{drop-cons, take-append-add}
use Rattle.std.proofs.lemmas.Bool.{cases_lt, eq-eqb, eqb-true}
use Rattle.std.proofs.lemmas.List.{take-append-drop, take-append-le, take_all, length-take, length-take-le, length-drop}
use Rattle.std.proofs.lemmas.List.{drop-take, drop-drop, get_or-take, get_or-drop}
use Rattle.std.proofs.lemmas.List.Elements.{All-from_get_or}
use borrow.Rule.Slice.PartMut.{put_mid, post_of}
use Rattle.memchr.specs.Find.{IsFirstByte, is_byte}
use Rattle.gd_input.specs.Cutting.{HasNoLf, IsLineEnd}
use Rattle.gd_input.specs.Buffers.{pending}

-- bytes are those in front of a place, the one there, and those behind it
split_at : (bytes : List ℕ) (end : ℕ) → end < length bytes → get_or bytes end 0 ≡ 10
    → bytes ≡ take end bytes ++ 10 ∷ drop (end + 1) bytes
split_at bytes end within is =
    sym (take-append-drop end bytes)
    ∙ ap (λ z. take end bytes ++ z) (drop-cons bytes end 0 within)
    ∙ ap (λ z. take end bytes ++ z ∷ drop (suc end) bytes) is
    ∙ ap (λ j. take end bytes ++ 10 ∷ drop j bytes) (sym (add-one end))

ends_line : (bytes : List ℕ) (end : ℕ) → end < length bytes → get_or bytes end 0 ≡ 10
    → ((i : ℕ) → i < end → get_or bytes i 0 ≡ 10 → ⊥) → IsLineEnd bytes end
ends_line bytes end within is none = record {
  within = within;
  here = split_at bytes end within is;
  before = All-from_get_or (λ byte. byte ≢ 10) (take end bytes) 0 (λ i below e.
      let l : i < end = omega (arith, length-take end bytes) in
      none i l (sym (get_or-take end bytes i 0 l) ∙ e));
}

-- no LF stands in front of a place, if none does among the bytes that were looked at, nor behind these
none_before : (bytes : List ℕ) (looked end : ℕ) → looked ≤ length bytes → HasNoLf (take looked bytes)
    → ((k : ℕ) → looked + k < end → get_or (drop looked bytes) k 0 ≡ 10 → ⊥)
    → (i : ℕ) → i < end → get_or bytes i 0 ≡ 10 → ⊥
none_before bytes looked end within no_lf none i below e =
    ⊎_elim
    (λ l. no_lf i 0 (omega (arith, length-take looked bytes)) (get_or-take looked bytes i 0 l ∙ e))
    (λ l.
    let place : looked + (i - looked) ≡ i = omega arith in
    none (i - looked) (omega arith) (get_or-drop looked bytes (i - looked) 0 ∙ ap (λ j. get_or bytes j 0) place ∙ e))
    (cases_lt i looked)

found_at : (bytes hay : List ℕ) (looked : ℕ) (found : Option ℕ) → hay ≡ drop looked bytes → looked ≤ length bytes
    → HasNoLf (take looked bytes)
    → IsFirstByte (is_byte 10) hay found → MatchOption found (HasNoLf bytes) (λ k. IsLineEnd bytes (looked + k))
found_at bytes hay looked None hay_is within no_lf h =
    All-from_get_or (λ byte. byte ≢ 10) bytes 0 (none_before bytes looked (length bytes) within no_lf (λ k l e.
    h k (omega arith) (omega (arith, ap length hay_is, length-drop looked bytes))
    (eq-eqb _ 10 (ap (λ z. get_or z k 0) hay_is ∙ e))))
found_at bytes hay looked (Some k) hay_is within no_lf h =
    let in_bytes : looked + k < length bytes = omega (arith, ap length hay_is, length-drop looked bytes, h.0.high) in
    ends_line bytes (looked + k) in_bytes
    (sym (get_or-drop looked bytes k 0) ∙ ap (λ z. get_or z k 0) (sym hay_is) ∙ eqb-true _ 10 h.1)
    (none_before bytes looked (looked + k) within no_lf (λ j l e.
    h.0.before j (omega arith) (omega arith) (eq-eqb _ 10 (ap (λ z. get_or z j 0) hay_is ∙ e))))

-- a search behind the bytes that were looked at finds the end of the first line
pub finds_line_end : (bytes : List ℕ) (looked : ℕ) (found : Option ℕ) → looked ≤ length bytes
    → HasNoLf (take looked bytes)
    → IsFirstByte (is_byte 10) (take (length bytes - looked) (drop looked bytes)) found
    → MatchOption found (HasNoLf bytes) (λ k. IsLineEnd bytes (looked + k))
finds_line_end bytes looked found within no_lf h =
    let hay_is : take (length bytes - looked) (drop looked bytes)
    ≡ drop looked bytes = take_all _ _ (omega (arith, length-drop looked bytes)) in
    found_at bytes _ looked found hay_is within no_lf h

-- what is pending once the first bytes are let go
pub pending_behind : (bytes old : List ℕ) (start end count : ℕ) → start ≤ end → pending bytes start end ≡ old
    → count ≤ length old
    → pending bytes (start + count) end ≡ drop count old
pending_behind bytes old start end count in_order is fits =
    let room : start + count ≤ end = omega (arith, ap length is, length-take (end - start) (drop start bytes)) in
    let rest : count + (end - (start + count)) ≡ end - start = omega arith in
    ap (λ (x : List ℕ). take (end - (start + count)) x) (sym (drop-drop count start bytes))
    ∙ sym (rw rest at (drop-take count (end - (start + count)) (drop start bytes)))
    ∙ ap (drop count) is

-- bytes that a read has put behind the first ones
put_behind : (end k count : ℕ) (bytes buf : List ℕ) → end ≤ length bytes → count ≤ length buf
    → take (end + count) (put_mid end k bytes buf) ≡ take end bytes ++ take count buf
put_behind end k count bytes buf h le =
    let first : length (take end bytes) ≡ end = length-take-le end bytes h in
    let e : take (length (take end bytes) + count) (put_mid end k bytes buf)
    ≡ take end bytes ++ take count (buf ++ post_of end k bytes)
    = take-append-add (take end bytes) (buf ++ post_of end k bytes) count in
    rw first at e ∙ ap (λ (x : List ℕ). take end bytes ++ x) (take-append-le count buf (post_of end k bytes) le)

-- what is pending once a read has put bytes behind it
pub filled : (start end count k : ℕ) (bytes moved buf old : List ℕ) → pending bytes start end ≡ old
    → take (end - start) moved ≡ pending bytes start end → end - start ≤ length moved → count ≤ length buf
    → pending (put_mid (end - start) k moved buf) 0 (end - start + count) ≡ old ++ take count buf
filled start end count k bytes moved buf old is same fits le =
    let whole : end - start + count - 0 ≡ end - start + count = omega arith in
    ap (λ n. take n (put_mid (end - start) k moved buf)) whole
    ∙ put_behind (end - start) k count moved buf fits le ∙ ap (λ z. z ++ take count buf) (same ∙ is)
