-- A look, and what is set of looks, are read where their bytes stand, and nowhere else.
use Rattle.std.proofs.Common.{◌≡◌, ℕ, ◌<◌, ◌^◌, Bool, true, false, cond, List, [], ◌∷◌, ◌++◌, Option, Some, None, Ok}
use Rattle.std.proofs.Common.{refl, sym, eq-eqb, eqb-true, arith}
use Rattle.std.specs.Prelude.{◌==◌, nat_le, unwrap_or}
use Rattle.std.proofs.lemmas.Bool.{leb-true, and_parts}
use Rattle.std.proofs.lemmas.Bool.Decides.{nat_tests}
use Rattle.std.proofs.lemmas.List.{append_assoc}
use Rattle.std.specs.Int.{bytes_high_first}
use Rattle.gd_base.specs.Ranges.{is_colour, is_letters, is_opacity, is_round, is_width}
use Rattle.gd_base.specs.declared.fault.FieldWhy.TheVariants.{Field}
use Rattle.gd_base.specs.declared.look.Align.{Align}
use Rattle.gd_base.specs.declared.look.Align.TheVariants as align
use Rattle.gd_base.specs.declared.look.Dash.{Dash}
use Rattle.gd_base.specs.declared.look.Dash.TheVariants.{Solid, Dashed, Dotted}
use Rattle.gd_base.specs.declared.look.Heads.{Heads}
use Rattle.gd_base.specs.declared.look.Heads.TheVariants.{Bare, AtEnd, AtStart, AtBoth}
use Rattle.gd_base.specs.declared.look.Look.{Look}
use Rattle.gd_base.specs.declared.look.Looks.{Looks}
use Rattle.gd_grammar.specs.Exact.{Exact}
use Rattle.gd_grammar.specs.FieldBytes.{word_bytes}
use Rattle.gd_grammar.specs.Fields.{byte_at}
use Rattle.gd_grammar.specs.LookBytes.{none_or, thin_at, dash_rows, dash_at, heads_rows, heads_at, round_at, opacity_at}
use Rattle.gd_grammar.specs.LookBytes.{letters_at, align_rows, align_at, look_at, set_rows, if_set, all_looks_at}
use Rattle.gd_grammar.specs.LookBytes.{fill_bytes, dash_byte, heads_byte, round_bytes, letters_bytes, align_byte}
use Rattle.gd_grammar.specs.LookBytes.{look_bytes, set_bytes, single, looks_bytes}
use Rattle.gd_grammar.specs.Reading.{Reader, ranged, then_at}
use Rattle.gd_base.specs.Results.{◌>>=◌}
use Rattle.gd_grammar.specs.Readers.{steps}
use Rattle.gd_grammar.proofs.Exact.{joined, taking, done, exact_as, exact_field}
use Rattle.gd_grammar.specs.EventBytes.{colour_at, fill_at}
use Rattle.gd_grammar.proofs.ExactFields.{IsFill, exact_byte, exact_half, exact_word, exact_colour, exact_fill}
use Rattle.gd_grammar.proofs.Readers.{◌&◌, AllTook, took-pure, took-into, took-tags, then-read, pure-read}
use Rattle.gd_grammar.proofs.SoundLooks.{IsLooked, AreSet}

-- ---- parts

exact_thin : Exact thin_at (λ n. is_width n ≡ true) (single (λ n. n))
unfolding thin_at then_at
exact_thin = exact_field exact_byte (λ n. n) (λ n. n) is_width Field (λ n. is_width n ≡ true) (λ n s. (tt, refl, s))
    (λ n u are t. (t, refl))

exact_opacity : Exact opacity_at (λ n. is_opacity n ≡ true) (single (λ n. n))
unfolding opacity_at then_at
exact_opacity = exact_field exact_byte (λ n. n) (λ n. n) is_opacity Field (λ n. is_opacity n ≡ true)
    (λ n s. (tt, refl, s)) (λ n u are t. (t, refl))

dash-written : (dash : Dash) (rest : List ℕ) → dash_at (dash_byte dash ∷ rest) ≡ Ok (dash, rest)
unfolding dash_at byte_at steps
dash-written Solid rest = refl
dash-written Dashed rest = refl
dash-written Dotted rest = refl

dashes : AllTook (λ _. Unit {0}) (single dash_byte) dash_rows
dashes = took-pure Solid 0 tt refl & took-pure Dashed 1 tt refl & took-pure Dotted 2 tt refl & tt

exact_dash : Exact dash_at (λ _. Unit {0}) (single dash_byte)
unfolding dash_at
exact_dash = record {
  written = λ dash rest s. dash-written dash rest;
  taken
      = λ bytes z are e. took-tags dash_rows dashes bytes z are e;
}

heads-written : (heads : Heads) (rest : List ℕ) → heads_at (heads_byte heads ∷ rest) ≡ Ok (heads, rest)
unfolding heads_at byte_at steps
heads-written Bare rest = refl
heads-written AtEnd rest = refl
heads-written AtStart rest = refl
heads-written AtBoth rest = refl

all_heads : AllTook (λ _. Unit {0}) (single heads_byte) heads_rows
all_heads = took-pure Bare 0 tt refl & took-pure AtEnd 1 tt refl & took-pure AtStart 2 tt refl & took-pure AtBoth 3 tt
    refl & tt

exact_heads : Exact heads_at (λ _. Unit {0}) (single heads_byte)
unfolding heads_at
exact_heads = record {
  written = λ heads rest s. heads-written heads rest;
  taken
      = λ bytes z are e. took-tags heads_rows all_heads bytes z are e;
}

align-written : (align : Option Align) (rest : List ℕ) → align_at (align_byte align ∷ rest) ≡ Ok (align, rest)
unfolding align_at byte_at steps
align-written None rest = refl
align-written (Some align.Start) rest = refl
align-written (Some align.Middle) rest = refl
align-written (Some align.End) rest = refl

aligns : AllTook (λ _. Unit {0}) (single align_byte) align_rows
aligns =
    took-pure None 0 tt refl & took-pure (Some align.Start) 1 tt refl & took-pure (Some align.Middle) 2 tt refl
    & took-pure (Some align.End) 3 tt refl & tt

exact_align : Exact align_at (λ _. Unit {0}) (single align_byte)
unfolding align_at
exact_align = record {
  written = λ align rest s. align-written align rest;
  taken
      = λ bytes z are e. took-tags align_rows aligns bytes z are e;
}

-- a number of which one stands for none
module _ (top none : ℕ) (test : Option ℕ → Bool) where
  -- a number that is read
  abbrev Stands : Option ℕ → Type 0
  Stands o = (unwrap_or o none < top) × (none_or none (unwrap_or o none) ≡ o) × (test o ≡ true)

  stands : none < top → ((n : ℕ) → test (Some n) ≡ true → (n < top) × ((n == none) ≡ false)) → (o : Option ℕ)
      → test o ≡ true → Stands o
  stands small apart None s = (small, rw (eq-eqb none none refl) refl, s)
  stands small apart (Some n) s = let p = apart n s in (p.0, rw p.1 refl, s)

  back : (n : ℕ) (b : Bool) → (n == none) ≡ b → unwrap_or (cond b None (Some n)) none ≡ n
  back n true e = sym (eqb-true n none e)
  back n false e = refl

  exact_none_or : {r : Reader ℕ} {sp : ℕ → List ℕ} → Exact r (λ n. n < top) sp → none < top
      → ((n : ℕ) → test (Some n) ≡ true → (n < top) × ((n == none) ≡ false))
      → Exact (λ bytes. r bytes >>= λ n. ranged (test (none_or none n.0)) (none_or none n.0) bytes n.1)
      (λ o. test o ≡ true) (λ o. sp (unwrap_or o none))
  exact_none_or exact small apart
      = exact_field exact (none_or none) (λ o. unwrap_or o none) test Field (λ o. test o ≡ true)
      (stands small apart) (λ n low are t. (t, back n (n == none) refl))

round-word : (round : Option ℕ) → word_bytes (unwrap_or round 0xFFFFFFFF) ≡ round_bytes round
round-word None = refl
round-word (Some n) = refl

exact_round : Exact round_at (λ o. is_round o ≡ true) round_bytes
unfolding round_at then_at
exact_round = exact_as (exact_none_or (2 ^ 32) 0xFFFFFFFF is_round exact_word (omega arith) apart) (λ o s. round-word o)
  where
    apart : (n : ℕ) → is_round (Some n) ≡ true → (n < 2 ^ 32) × ((n == 0xFFFFFFFF) ≡ false)
    apart n s = let low = leb-true n 1000000 s in (omega (arith, low), grind (arith, nat_tests))

letters-half : (letters : Option ℕ) → bytes_high_first 2 (unwrap_or letters 0) ≡ letters_bytes letters
letters-half None = refl
letters-half (Some n) = refl

exact_letters : Exact letters_at (λ o. is_letters o ≡ true) letters_bytes
unfolding letters_at then_at
exact_letters = exact_as (exact_none_or (2 ^ 16) 0 is_letters exact_half (omega arith) apart) (λ o s. letters-half o)
  where
    apart : (n : ℕ) → is_letters (Some n) ≡ true → (n < 2 ^ 16) × ((n == 0) ≡ false)
    apart n s =
        let p = and_parts (nat_le 1 n) (nat_le n 1000) s in
        let least = leb-true 1 n p.0 in
        let most = leb-true n 1000 p.1 in
        (omega (arith, most), grind (arith, nat_tests))

-- ---- a look

-- its parts, one behind the other
look-turn : (stroke fill round letters rest : List ℕ) (width dash heads opacity align : ℕ)
    → (stroke ++ fill ++ width ∷ dash ∷ heads ∷ round ++ opacity ∷ letters ++ align ∷ []) ++ rest
    ≡ stroke ++ (fill ++ (width ∷ dash ∷ heads ∷ (round ++ (opacity ∷ (letters ++ (align ∷ rest))))))
look-turn stroke fill round letters rest width dash heads opacity align = simp append_assoc

look-written : (l : Look) (rest : List ℕ) → IsLooked l → look_at (look_bytes l ++ rest) ≡ Ok (l, rest)
unfolding look_at look_bytes
look-written l rest s =
    rw (look-turn (word_bytes l.stroke) (fill_bytes l.fill) (round_bytes l.round) (letters_bytes l.letters) rest l.width
    (dash_byte l.dash)
    (heads_byte l.heads) l.opacity (align_byte l.align))
    (then-read _ _ (exact_colour.written l.stroke _ s.stroke_in)
    (then-read _ _ (exact_fill.written l.fill _ (record { within = s.fill_in }))
    (then-read _ _ (exact_thin.written l.width _ s.width_in) (then-read _ _ (exact_dash.written l.dash _ tt)
    (then-read _ _ (exact_heads.written l.heads _ tt) (then-read _ _ (exact_round.written l.round _ s.round_in)
    (then-read _ _ (exact_opacity.written l.opacity _ s.opacity_in)
    (then-read _ _ (exact_letters.written l.letters _ s.letters_in)
    (then-read _ _ (exact_align.written l.align _ tt) (pure-read _ _))))))))))

pub exact_look : Exact look_at IsLooked look_bytes
unfolding look_at look_bytes steps
exact_look = record {
  written = look-written;
  taken = λ bytes z are e.
      taking exact_colour bytes are _ z e (λ stroke.
      taking exact_fill stroke.rest stroke.left _ z stroke.on (λ fill.
      taking exact_thin fill.rest fill.left _ z fill.on (λ width.
      taking exact_dash width.rest width.left _ z width.on (λ dash.
      taking exact_heads dash.rest dash.left _ z dash.on (λ heads.
      taking exact_round heads.rest heads.left _ z heads.on (λ round.
      taking exact_opacity round.rest round.left _ z round.on (λ opacity.
      taking exact_letters opacity.rest opacity.left _ z opacity.on (λ letters.
      taking exact_align letters.rest letters.left _ z letters.on (λ align.
      let marks = joined width.text (joined dash.text (joined heads.text round.text)) in
      done _ z align.on (record {
        sound = record {
          stroke_in = stroke.sound;
          fill_in = fill.sound.within;
          width_in = width.sound;
          round_in = round.sound;
          opacity_in = opacity.sound;
          letters_in = letters.sound;
        };
        text = joined (joined (joined (joined stroke.text fill.text) marks) (joined opacity.text letters.text))
            align.text;
      }))))))))));
}

-- ---- what is set

-- what may be set, of which the value stands for none too
module _ {A : Type 0} {r : Reader A} {S : A → Type 0} {sp : A → List ℕ} (exact : Exact r S sp) (value : A)
    (sound : S value) where
  set-written : (o : Option A) (rest : List ℕ) → S (unwrap_or o value)
      → if_set r (set_bytes sp o ++ rest) ≡ Ok (o, rest)
  unfolding if_set byte_at steps
  set-written None rest s = refl
  set-written (Some a) rest s = rw (exact.written a rest s) refl

  sets : AllTook (λ o. S (unwrap_or o value)) (set_bytes sp) (set_rows r)
  sets = took-pure None 0 sound refl & took-into Some 1 exact (λ a s. s) (λ a. refl) & tt

  exact_set : Exact (if_set r) (λ o. S (unwrap_or o value)) (set_bytes sp)
  unfolding if_set
  exact_set = record { written = set-written; taken = λ bytes z are e. took-tags (set_rows r) sets bytes z are e }

-- nine texts, one behind the other
nine-turn : (a b c d e f g h i rest : List ℕ)
    → (a ++ b ++ c ++ d ++ e ++ f ++ g ++ h ++ i) ++ rest
    ≡ a ++ (b ++ (c ++ (d ++ (e ++ (f ++ (g ++ (h ++ (i ++ rest))))))))
nine-turn a b c d e f g h i rest = simp append_assoc

set_stroke : Exact (if_set colour_at) (λ o. is_colour (unwrap_or o 0) ≡ true) (set_bytes word_bytes)
set_stroke = exact_set exact_colour 0 refl

set_fill : Exact (if_set fill_at) (λ o. IsFill (unwrap_or o None)) (set_bytes fill_bytes)
set_fill = exact_set exact_fill None (record { within = refl })

set_width : Exact (if_set thin_at) (λ o. is_width (unwrap_or o 1) ≡ true) (set_bytes (single (λ n. n)))
set_width = exact_set exact_thin 1 refl

set_dash : Exact (if_set dash_at) (λ o. Unit {0}) (set_bytes (single dash_byte))
set_dash = exact_set exact_dash Solid tt

set_heads : Exact (if_set heads_at) (λ o. Unit {0}) (set_bytes (single heads_byte))
set_heads = exact_set exact_heads Bare tt

set_round : Exact (if_set round_at) (λ o. is_round (unwrap_or o None) ≡ true) (set_bytes round_bytes)
set_round = exact_set exact_round None refl

set_opacity : Exact (if_set opacity_at) (λ o. is_opacity (unwrap_or o 1) ≡ true) (set_bytes (single (λ n. n)))
set_opacity = exact_set exact_opacity 1 refl

set_letters : Exact (if_set letters_at) (λ o. is_letters (unwrap_or o None) ≡ true) (set_bytes letters_bytes)
set_letters = exact_set exact_letters None refl

set_align : Exact (if_set align_at) (λ o. Unit {0}) (set_bytes (single align_byte))
set_align = exact_set exact_align None tt

looks-written : (l : Looks) (rest : List ℕ) → AreSet l → all_looks_at (looks_bytes l ++ rest) ≡ Ok (l, rest)
unfolding all_looks_at looks_bytes
looks-written l rest s =
    rw (nine-turn (set_bytes word_bytes l.stroke) (set_bytes fill_bytes l.fill) (set_bytes (single (λ n. n)) l.width)
    (set_bytes (single dash_byte) l.dash) (set_bytes (single heads_byte) l.heads) (set_bytes round_bytes l.round)
    (set_bytes (single (λ n. n)) l.opacity) (set_bytes letters_bytes l.letters) (set_bytes (single align_byte) l.align)
    rest)
    (then-read _ _ (set_stroke.written l.stroke _ s.stroke_in)
    (then-read _ _ (set_fill.written l.fill _ (record { within = s.fill_in }))
    (then-read _ _ (set_width.written l.width _ s.width_in) (then-read _ _ (set_dash.written l.dash _ tt)
    (then-read _ _ (set_heads.written l.heads _ tt) (then-read _ _ (set_round.written l.round _ s.round_in)
    (then-read _ _ (set_opacity.written l.opacity _ s.opacity_in)
    (then-read _ _ (set_letters.written l.letters _ s.letters_in)
    (then-read _ _ (set_align.written l.align _ tt) (pure-read _ _))))))))))

pub exact_looks : Exact all_looks_at AreSet looks_bytes
unfolding all_looks_at looks_bytes steps
exact_looks = record {
  written = looks-written;
  taken = λ bytes z are e.
      taking set_stroke bytes are _ z e (λ stroke.
      taking set_fill stroke.rest stroke.left _ z stroke.on (λ fill.
      taking set_width fill.rest fill.left _ z fill.on (λ width.
      taking set_dash width.rest width.left _ z width.on (λ dash.
      taking set_heads dash.rest dash.left _ z dash.on (λ heads.
      taking set_round heads.rest heads.left _ z heads.on (λ round.
      taking set_opacity round.rest round.left _ z round.on (λ opacity.
      taking set_letters opacity.rest opacity.left _ z opacity.on (λ letters.
      taking set_align letters.rest letters.left _ z letters.on (λ align.
      let first = joined (joined (joined stroke.text fill.text) width.text) dash.text in
      done _ z align.on (record {
        sound = record {
          stroke_in = stroke.sound;
          fill_in = fill.sound.within;
          width_in = width.sound;
          round_in = round.sound;
          opacity_in = opacity.sound;
          letters_in = letters.sound;
        };
        text = joined (joined (joined (joined (joined first heads.text) round.text) opacity.text) letters.text)
            align.text;
      }))))))))));
}
