-- How many bytes there are of looks, labels and objects.
use Rattle.std.proofs.Common.{◌≡◌, ℕ, ◌+◌, ◌-◌, ◌/◌, ◌%◌, ◌≤◌, Bool, true, false, cond, List, [], ◌∷◌, ◌++◌, length}
use Rattle.std.proofs.Common.{Option, Some, None, refl, arith}
use Rattle.std.specs.Prelude.{nat_le}
use Rattle.std.proofs.lemmas.Bool.{le-leb}
use Rattle.std.proofs.lemmas.List.{length-append}
use Rattle.gd_base.specs.Labels.{most_title}
use Rattle.gd_base.specs.declared.look.Look.{Look}
use Rattle.gd_base.specs.declared.object.Ends.{Ends}
use Rattle.gd_base.specs.declared.object.Link.{Link}
use Rattle.gd_base.specs.Whole.{Object}
use Rattle.gd_base.specs.declared.rank.Rank.{Rank}
use Rattle.gd_base.specs.declared.rank.Rank.TheVariants.{Low, High}
use Rattle.gd_base.specs.declared.ties.Tie.{Tie}
use Rattle.gd_grammar.specs.FieldBytes.{stamp_bytes, word_bytes, signed_bytes, length_bytes, text_bytes}
use Rattle.gd_grammar.specs.LookBytes.{fill_bytes, dash_byte, heads_byte, round_bytes, letters_bytes, align_byte}
use Rattle.gd_grammar.specs.LookBytes.{look_bytes}
use Rattle.gd_grammar.specs.Spelling.{kind_byte, flag_byte, ends_bytes, link_bytes, rank_bytes, object_bytes, tie_bytes}

-- ---- looks

fill-length : (fill : Option ℕ) → length (fill_bytes fill) ≡ 4
fill-length None = refl
fill-length (Some colour) = refl

round-length : (round : Option ℕ) → length (round_bytes round) ≡ 4
round-length None = refl
round-length (Some n) = refl

letters-length : (letters : Option ℕ) → length (letters_bytes letters) ≡ 2
letters-length None = refl
letters-length (Some n) = refl

pub look-length : (l : Look) → length (look_bytes l) ≡ 19
unfolding look_bytes
look-length l =
    let filled = word_bytes l.stroke ++ fill_bytes l.fill in
    let round = l.width ∷ dash_byte l.dash ∷ heads_byte l.heads ∷ round_bytes l.round in
    let letters = l.opacity ∷ letters_bytes l.letters in
    omega (
      arith,
      fill-length l.fill,
      round-length l.round,
      letters-length l.letters,
      length-append (filled ++ round ++ letters) (align_byte l.align ∷ []),
      length-append (filled ++ round) letters,
      length-append filled round,
      length-append (word_bytes l.stroke) (fill_bytes l.fill),
    )

-- ---- labels

length-most : (n : ℕ) → length (length_bytes n) ≤ 2
length-most n = by_length (nat_le n most_title)
  where
    by_length : (b : Bool) → length (cond b (n ∷ []) ((201 + (n - 201) / 256) ∷ (n - 201) % 256 ∷ [])) ≤ 2
    by_length true = omega arith
    by_length false = omega arith

length-least : (n : ℕ) → 1 ≤ length (length_bytes n)
length-least n = by_length (nat_le n most_title)
  where
    by_length : (b : Bool) → 1 ≤ length (cond b (n ∷ []) ((201 + (n - 201) / 256) ∷ (n - 201) % 256 ∷ []))
    by_length true = omega arith
    by_length false = omega arith

-- a label has one or two bytes more than its text
pub text-most : (text : List ℕ) → length (text_bytes text) ≤ 2 + length text
text-most text = omega (arith, length-most (length text), length-append (length_bytes (length text)) text)

pub text-least : (text : List ℕ) → 1 + length text ≤ length (text_bytes text)
text-least text = omega (arith, length-least (length text), length-append (length_bytes (length text)) text)

-- and a title one
pub title-length : (text : List ℕ) → length text ≤ most_title → length (text_bytes text) ≡ 1 + length text
title-length text fits = let short : nat_le (length text) most_title ≡ true = le-leb _ _ fits in rw short (omega arith)

-- ---- objects

-- from so many to so many bytes
record Long (least most : ℕ) (bytes : List ℕ) : Type 0 where
  from : least ≤ length bytes
  to : length bytes ≤ most

ends-long : (ends : Option Ends) → Long 1 15 (ends_bytes ends)
ends-long None = record { from = omega arith; to = omega arith }
ends-long (Some ends) = record { from = omega arith; to = omega arith }

link-long : (link : Option Link) → Long 1 16 (link_bytes link)
link-long None = record { from = omega arith; to = omega arith }
link-long (Some link) = record { from = omega arith; to = omega arith }

rank-length : (rank : Rank) → length (rank_bytes rank) ≡ 8
rank-length (Low stamp) = refl
rank-length (High stamp) = refl

-- a tie has at most 23 bytes
pub tie_most : (t : Tie) → length (tie_bytes t) ≤ 23
tie_most t = omega (arith, (link-long t.link).to, length-append (stamp_bytes t.id) (link_bytes t.link))

-- the parts of an object besides its label
module _ (o : Object) where
  abbrev form : List ℕ
  form = kind_byte o.kind ∷ signed_bytes o.x ++ signed_bytes o.y ++ signed_bytes o.w ++ signed_bytes o.h

  -- how long an object is
  abbrev whole : ℕ
  whole = 36 + length (text_bytes o.label) + length (ends_bytes o.ends) + length (link_bytes o.link) + 9

  object-length : length (object_bytes o) ≡ whole
  unfolding object_bytes
  object-length =
      let look = look_bytes o.look in
      let label = text_bytes o.label in
      let ends = ends_bytes o.ends in
      let link = link_bytes o.link in
      let rank = flag_byte o.dissolved ∷ rank_bytes o.rank in
      omega (
        arith,
        look-length o.look,
        rank-length o.rank,
        length-append (form ++ look ++ label ++ ends ++ link) rank,
        length-append (form ++ look ++ label ++ ends) link,
        length-append (form ++ look ++ label) ends,
        length-append (form ++ look) label,
        length-append form look,
      )

  -- it has from 47 to 76 bytes besides its label
  pub object-most : length (object_bytes o) ≤ 76 + length (text_bytes o.label)
  object-most = omega (arith, object-length, (ends-long o.ends).to, (link-long o.link).to)

  pub object-least : 47 + length (text_bytes o.label) ≤ length (object_bytes o)
  object-least = omega (arith, object-length, (ends-long o.ends).from, (link-long o.link).from)
