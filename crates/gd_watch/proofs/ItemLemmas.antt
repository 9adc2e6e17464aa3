-- What bytes that were read ahead say of the next item, and what the items of bytes are by that.
use Rattle.std.proofs.Common.{◌≡◌, ℕ, zero, suc, ◌+◌, ◌<◌, ◌≤◌, List, [], ◌∷◌, ◌++◌, length, take, drop, refl, sym, ap}
use Rattle.std.proofs.Common.{◌∙◌, subst, arith, append-nil, append_assoc, length-append, length-take-le}
use Rattle.std.proofs.lemmas.Bool.{le-ltb, lt-ltb}
use Rattle.std.proofs.Math.Seq.{drop-append_seam, take-append_seam}
use Rattle.std.specs.Int.{w16, from_be_bytes}
use Rattle.std.specs.Prelude.{Option, Some, Result, Ok, Err, IsErrAnd, IsSome}
use Rattle.gd_base.specs.declared.fault.FieldFault.{FieldFault}
use Rattle.gd_base.specs.declared.fault.ViewWhy.TheVariants.{Long, Short}
use Rattle.gd_grammar.specs.Fields.{half_at}
use Rattle.gd_grammar.specs.declared.sizes.TheConstants.{FRAME_BYTES}
use Rattle.gd_handover.specs.Parts.{Grown, cut}
use Rattle.gd_handover.proofs.PartLemmas.{called-then}
use Rattle.gd_outside.specs.Seen.{SeenSource}
use Rattle.gd_outside.specs.Told.{told}
use Rattle.gd_snapshots.specs.SnapshotBytes.{SnapshotMisread, misread_at}
use Rattle.gd_viewing.specs.Viewing.{Broken, Datagram, TooMany, item_at, items_of}
use Rattle.gd_watch.specs.Items.{ComesNext, IsBroken, IsCut, IsWhole, NextIs, Settles}
use Rattle.gd_watch.specs.declared.items.Next.{Next}
use Rattle.gd_watch.specs.declared.items.Next.TheVariants as next

-- ---- an item

abbrev number : ℕ → ℕ → ℕ
number a b = from_be_bytes w16 (a ∷ b ∷ [])

half_two : (a b : ℕ) (rest : List ℕ) → half_at (a ∷ b ∷ rest) ≡ Ok (number a b, rest)
unfolding half_at
half_two a b rest = rw (le-ltb (length (a ∷ b ∷ rest)) 2 (omega arith)) refl

-- the length was read
long_at : (a b : ℕ) (rest : List ℕ) → FRAME_BYTES < number a b
    → item_at (a ∷ b ∷ rest) ≡ Err (misread_at Long (a ∷ b ∷ rest))
unfolding item_at
long_at a b rest long = rw (half_two a b rest, lt-ltb FRAME_BYTES (number a b) long) refl

few_at : (a b : ℕ) (rest : List ℕ) → number a b ≤ FRAME_BYTES → length rest < number a b
    → item_at (a ∷ b ∷ rest) ≡ Err cut
unfolding item_at
few_at a b rest fits few
    = rw (half_two a b rest, le-ltb FRAME_BYTES (number a b) fits, lt-ltb (length rest) (number a b) few) refl

whole_at : (a b : ℕ) (rest : List ℕ) → number a b ≤ FRAME_BYTES → number a b ≤ length rest
    → item_at (a ∷ b ∷ rest) ≡ Ok (take (number a b) rest, drop (number a b) rest)
unfolding item_at
whole_at a b rest fits there
    = rw (half_two a b rest, le-ltb FRAME_BYTES (number a b) fits, le-ltb (length rest) (number a b) there) refl

none_at : item_at [] ≡ Err cut
unfolding item_at half_at
none_at = refl

one_at : (a : ℕ) → item_at (a ∷ []) ≡ Err cut
unfolding item_at half_at
one_at a = refl

-- ---- what is known of bytes

-- the length and what stands behind it, where they were read
record IsLength (bytes : List ℕ) (count : ℕ) (rest : List ℕ) : Type 0 where
  a : ℕ
  b : ℕ
  is : bytes ≡ a ∷ b ∷ rest
  count_is : count ≡ number a b

no_half : (count : ℕ) (rest : List ℕ) → half_at [] ≡ Ok (count, rest) → ⊥
unfolding half_at
no_half count rest e = cc

no_half_of : (a count : ℕ) (rest : List ℕ) → half_at (a ∷ []) ≡ Ok (count, rest) → ⊥
unfolding half_at
no_half_of a count rest e = cc

length_of : (bytes : List ℕ) (count : ℕ) (rest : List ℕ) → half_at bytes ≡ Ok (count, rest) → IsLength bytes count rest
length_of [] count rest e = absurd (no_half count rest e)
length_of (a ∷ []) count rest e = absurd (no_half_of a count rest e)
length_of (a ∷ b ∷ tail) count rest e =
    let same : (number a b, tail) ≡ (count, rest) = let k = sym (half_two a b tail) ∙ e in cc in
    record {
      a = a;
      b = b;
      is = ap (λ (x : ℕ × List ℕ). a ∷ b ∷ x.1) same;
      count_is
          = sym (ap (λ (x : ℕ × List ℕ). x.0) same);
    }

pub no_length : (most : ℕ) (bytes : List ℕ) (f : FieldFault) → half_at bytes ≡ Err f → (1 ≤ length bytes → 1 ≤ most)
    → IsCut most bytes
no_length most [] f e room = record { is = none_at; few = omega arith; room = room }
no_length most (a ∷ []) f e room = record { is = one_at a; few = omega arith; room = room }
no_length most (a ∷ b ∷ tail) f e room = absurd (let k = sym (half_two a b tail) ∙ e in cc)

pub nothing_ahead : (most : ℕ) (bytes : List ℕ) → bytes ≡ [] → IsCut most bytes
nothing_ahead most bytes e
    = subst (IsCut most) (sym e)
    (record { is = none_at; few = omega arith; room = λ some. absurd (omega (arith, some)) })

module _ (most : ℕ) (bytes : List ℕ) (count : ℕ) (rest : List ℕ) (read : half_at bytes ≡ Ok (count, rest))
    (room : 1 ≤ most) where
  pub too_long : FRAME_BYTES < count → (more : List ℕ) → IsBroken most bytes more 0 Long
  too_long long more =
      let l = length_of bytes count rest read in
      let all : bytes ++ more ≡ l.a ∷ l.b ∷ (rest ++ more) = ap (λ (z : List ℕ). z ++ more) l.is in
      record {
        room = room;
        some = omega (arith, ap length l.is);
        near = omega arith;
        misread = record {
          left = length (bytes ++ more);
          is = ap item_at all ∙ long_at l.a l.b (rest ++ more) (subst (λ (n : ℕ). FRAME_BYTES < n) l.count_is long)
              ∙ ap (λ (z : List ℕ). Err (misread_at Long z)) (sym all);
          inside = omega arith;
          there = omega arith;
        };
      }

  pub too_few : count ≤ FRAME_BYTES → length rest < count → IsCut most bytes
  too_few fits few =
      let l = length_of bytes count rest read in
      record {
        is = ap item_at l.is ∙ few_at l.a l.b rest (omega (arith, l.count_is, fits)) (omega (arith, l.count_is, few));
        few = omega (arith, ap length l.is, fits, few);
        room = λ some. room;
      }

  pub all_there : count ≤ FRAME_BYTES → count ≤ length rest → IsWhole most bytes count
  all_there fits there =
      let l = length_of bytes count rest read in
      let text : List ℕ = take count rest in
      let two : count + 2 ≡ suc (suc count) = omega arith in
      let long : length text ≡ count = length-take-le count rest there in
      let front : take (count + 2) bytes ≡ l.a ∷ l.b ∷ text = ap (λ (n : ℕ). take n bytes) two
      ∙ ap (take (suc (suc count))) l.is in
      record {
        room = room;
        few = fits;
        fits = omega (arith, ap length l.is, there);
        alone = λ more.
            let whole = whole_at l.a l.b (text ++ more) (omega (arith, l.count_is, fits))
            (omega (arith, l.count_is, long, length-append text more)) in
            let same : number l.a l.b ≡ length text = omega (arith, l.count_is, long) in
            let first : take (number l.a l.b) (text ++ more)
            ≡ take count (drop 2 bytes) = ap (λ (n : ℕ). take n (text ++ more)) same ∙ take-append_seam text more
            ∙ ap (λ (z : List ℕ). take count (drop 2 z)) (sym l.is) in
            let last : drop (number l.a l.b) (text ++ more) ≡ more = ap (λ (n : ℕ). drop n (text ++ more)) same
            ∙ drop-append_seam text more in
            ap (λ (z : List ℕ). item_at (z ++ more)) front ∙ whole ∙ (λ i. Ok (first i, last i));
      }

-- ---- what comes next

-- what is known whatever follows
pub settled_next : (most : ℕ) (n : Next) (bytes : List ℕ) (left : Option (List ℕ)) → Settles most bytes (Some n)
    → ComesNext most n bytes left
settled_next most next.End bytes left h = absurd h
settled_next most (next.Item count) bytes left h = h
settled_next most (next.Broken at why) bytes left h = ((h []).near, λ t. h (told left))
settled_next most next.TooMany bytes left h = h

-- a read failed
pub cut_off : {E : Type 0} (P : E → Type 0) (most : ℕ) (r : Result Next E) (bytes : List ℕ) (left : Option (List ℕ))
    → IsErrAnd r P → IsCut most bytes → NextIs most r bytes left
cut_off P most (Ok n) bytes left gone h = absurd gone
cut_off P most (Err e) bytes left gone h = h

-- nothing came
pub still_cut : (most : ℕ) (old new taken : List ℕ) → new ≡ old ++ taken → length new ≡ length old → IsCut most old
    → IsCut most new
still_cut most old new [] is long h = subst (IsCut most) (sym (is ∙ append-nil old)) h
still_cut most old new (b ∷ taken) is long h = absurd (omega (arith, long, ap length is, length-append old (b ∷ taken)))

-- ---- at the end of the input

pub short_end : (most at : ℕ) (bytes : List ℕ) → IsCut most bytes → at ≡ length bytes → 1 ≤ at
    → ComesNext most (next.Broken at Short) bytes (Some [])
short_end most at bytes c there some = (
  omega (arith, there, c.few),
  λ t. record {
    room = c.room (omega (arith, there, some));
    some = omega (arith, there, some);
    near = omega (arith, there, c.few);
    misread = record {
      left = 0;
      is = ap item_at (append-nil bytes) ∙ c.is;
      inside = omega arith;
      there = omega (arith, there, ap length (append-nil bytes));
    };
  },
)

pub no_bytes : (bytes : List ℕ) → length bytes ≡ 0 → bytes ≡ []
no_bytes [] e = refl
no_bytes (b ∷ bytes) e = absurd (omega (arith, e))

-- what is known where nothing is left
pub at_its_end : (most : ℕ) (n : Next) (bytes : List ℕ) (left : Option (List ℕ)) → (IsSome left → told left ≡ [])
    → ComesNext most n bytes (Some []) → ComesNext most n bytes left
at_its_end most next.End bytes left end h = (h.0, end)
at_its_end most (next.Item count) bytes left end h = h
at_its_end most (next.Broken at why) bytes left end h
    = (h.0, λ t. subst (λ (z : List ℕ). IsBroken most bytes z at why) (sym (end t)) (h.1 refl))
at_its_end most next.TooMany bytes left end h = h

-- ---- what is ahead grows

pub grown_nothing : (ahead : List ℕ) (here : SeenSource) → Grown ahead ahead here here ⊥
grown_nothing ahead here = record {
  called = record {
    taken = [];
    handed = record { was = λ t. t; now = λ t. refl };
    count = omega arith;
    cause
        = λ failed. absurd failed;
  };
  is = sym (append-nil ahead);
}

pub grown_then : {x y z : List ℕ} {a b c : SeenSource} {F G : Type 0} → Grown x y a b F → Grown y z b c G
    → Grown x z a c G
grown_then {x} {y} {z} h k = record {
  called = called-then h.called k.called;
  is = k.is ∙ ap (λ (l : List ℕ). l ++ k.called.taken) h.is ∙ append_assoc x h.called.taken k.called.taken;
}

pub grown_as : {x y : List ℕ} {a b : SeenSource} {F G : Type 0} → (G → F) → Grown x y a b F → Grown x y a b G
grown_as f h = record {
  called = record {
    taken = h.called.taken;
    handed = h.called.handed;
    count = h.called.count;
    cause
        = λ failed. h.called.cause (f failed);
  };
  is = h.is;
}

-- ---- the items of bytes

pub items_none : (most : ℕ) → items_of most [] ≡ []
unfolding items_of
items_none zero = refl
items_none (suc most) = refl

pub items_over : (most : ℕ) (bytes : List ℕ) → most ≡ 0 → 1 ≤ length bytes → items_of most bytes ≡ TooMany ∷ []
unfolding items_of
items_over zero [] none some = absurd (omega (arith, some))
items_over zero (b ∷ bytes) none some = refl
items_over (suc most) bytes none some = absurd (omega (arith, none))

pub items_broken : (most : ℕ) (bytes : List ℕ) (fault : SnapshotMisread) → 1 ≤ most → 1 ≤ length bytes
    → item_at bytes ≡ Err fault → items_of most bytes ≡ Broken fault ∷ []
unfolding items_of
items_broken zero bytes fault room some e = absurd (omega (arith, room))
items_broken (suc most) [] fault room some e = absurd (omega (arith, some))
items_broken (suc most) (b ∷ bytes) fault room some e = rw (e, items_of) refl

pub items_first : (most : ℕ) (bytes item rest : List ℕ) → 1 ≤ length bytes → item_at bytes ≡ Ok (item, rest)
    → items_of (suc most) bytes ≡ Datagram item ∷ items_of most rest
unfolding items_of
items_first most [] item rest some e = absurd (omega (arith, some))
items_first most (b ∷ bytes) item rest some e = rw (e, items_of) refl
