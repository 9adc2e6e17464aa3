-- The parts of looks, one behind the other, and how many of them are set.
use Rattle.std.proofs.Common.{◌≡◌, ◌∙◌, ap, ℕ, ◌+◌, List, [], ◌∷◌, ◌++◌, Option, Some, None, length, codes, decimal}
use Rattle.std.proofs.Common.{append_assoc, append-nil, length-append, refl, sym, arith}
use Rattle.std.specs.Int.{from_bool}
use Rattle.std.specs.Prelude.{is_some}
use Rattle.std.specs.List.{flat_map}
use Rattle.std.proofs.lemmas.Grind.{flat_map-append}
use Rattle.gd_base.specs.Stamps.{Stamp}
use Rattle.gd_base.specs.declared.look.Looks.{Looks}
use Rattle.gd_lines.specs.OpText.{align_or_none, command_text, dash_word, heads_word, looks_text, number_or_none}
use Rattle.gd_lines.specs.OpText.{part_of, parts_of}
use Rattle.gd_lines.specs.Text.{colour_text, fill_text}
use Rattle.gd_words.specs.Told.{led_text, part_text}

nine_told : {A : Type 0} (f : A → List ℕ) (t : List ℕ) (a b c d e g h i j : List A)
    → t ++ flat_map f a ++ flat_map f b ++ flat_map f c ++ flat_map f d ++ flat_map f e ++ flat_map f g ++ flat_map f h
    ++ flat_map f i ++ flat_map f j
    ≡ t ++ flat_map f (a ++ b ++ c ++ d ++ e ++ g ++ h ++ i ++ j)
nine_told f t a b c d e g h i j = simp (flat_map-append, append_assoc)

part_told : {A : Type 0} (id : Option Stamp) (name : List ℕ) (text : A → List ℕ) (part : Option A)
    → part_text id name text part ≡ flat_map (led_text id) (part_of name text part)
part_told id name text None = refl
part_told id name text (Some value) = sym (append-nil _)

pub pairs_told : (t : List ℕ) (id : Option Stamp) (l : Looks)
    → t ++ part_text id (codes "stroke") colour_text l.stroke ++ part_text id (codes "fill") fill_text l.fill
    ++ part_text id (codes "width") decimal l.width
    ++ part_text id (codes "dash") dash_word l.dash ++ part_text id (codes "heads") heads_word l.heads
    ++ part_text id (codes "round") number_or_none l.round
    ++ part_text id (codes "opacity") decimal l.opacity ++ part_text id (codes "size") number_or_none l.letters
    ++ part_text id (codes "align") align_or_none l.align
    ≡ t ++ flat_map (led_text id) (parts_of l)
pairs_told t id l = rw (
  part_told id (codes "stroke") colour_text l.stroke,
  part_told id (codes "fill") fill_text l.fill,
  part_told id (codes "width") decimal l.width,
  part_told id (codes "dash") dash_word l.dash,
  part_told id (codes "heads") heads_word l.heads,
  part_told id (codes "round") number_or_none l.round,
  part_told id (codes "opacity") decimal l.opacity,
  part_told id (codes "size") number_or_none l.letters,
  part_told id (codes "align") align_or_none l.align,
) (nine_told (led_text id) t _ _ _ _ _ _ _ _ _)

-- ---- one part, or others

pub lone_told : (id : Stamp) (ps : List (List ℕ × List ℕ)) → length ps ≡ 1
    → flat_map (led_text (Some id)) ps ≡ looks_text id ps
lone_told id [] one = absurd (omega (arith, one))
lone_told id (p ∷ []) one = append-nil _
lone_told id (p ∷ q ∷ ps) one = absurd (omega (arith, one))

pub others_told : (id : Stamp) (ps : List (List ℕ × List ℕ)) → ¬ (length ps ≡ 1)
    → command_text (codes "style") id ++ flat_map (led_text None) ps ≡ looks_text id ps
others_told id [] other = refl
others_told id (p ∷ []) other = absurd (other refl)
others_told id (p ∷ q ∷ ps) other = refl

pub lone_line : (before now : List ℕ) (id : Stamp) (ps : List (List ℕ × List ℕ)) (count : ℕ) → count ≡ length ps
    → count ≡ 1
    → now ≡ before ++ flat_map (led_text (Some id)) ps → now ≡ before ++ looks_text id ps
lone_line before now id ps count counts one told = told
    ∙ ap (λ text. before ++ text) (lone_told id ps (sym counts ∙ one))

pub others_line : (before called now : List ℕ) (id : Stamp) (ps : List (List ℕ × List ℕ)) (count : ℕ)
    → count ≡ length ps → ¬ (count ≡ 1)
    → called ≡ before ++ command_text (codes "style") id → now ≡ called ++ flat_map (led_text None) ps
    → now ≡ before ++ looks_text id ps
others_line before called now id ps count counts other style told =
    rw (told, style) (append_assoc before _ _
    ∙ ap (λ text. before ++ text) (others_told id ps (λ one. other (counts ∙ one))))

-- ---- how many

one_long : {A : Type 0} (name : List ℕ) (text : A → List ℕ) (part : Option A)
    → length (part_of name text part) ≡ from_bool (is_some part)
one_long name text None = refl
one_long name text (Some value) = refl

nine_long : {A : Type 0} (a b c d e f g h i : List A) → length (a ++ b ++ c ++ d ++ e ++ f ++ g ++ h ++ i)
    ≡ length a + length b + length c + length d + length e + length f + length g + length h + length i
nine_long a b c d e f g h i = simp length-append

pub parts_counted : (l : Looks) → length (parts_of l)
    ≡ from_bool (is_some l.stroke) + from_bool (is_some l.fill) + from_bool (is_some l.width)
    + from_bool (is_some l.dash) + from_bool (is_some l.heads)
    + from_bool (is_some l.round) + from_bool (is_some l.opacity) + from_bool (is_some l.letters)
    + from_bool (is_some l.align)
parts_counted l = rw (
  sym (one_long (codes "stroke") colour_text l.stroke),
  sym (one_long (codes "fill") fill_text l.fill),
  sym (one_long (codes "width") decimal l.width),
  sym (one_long (codes "dash") dash_word l.dash),
  sym (one_long (codes "heads") heads_word l.heads),
  sym (one_long (codes "round") number_or_none l.round),
  sym (one_long (codes "opacity") decimal l.opacity),
  sym (one_long (codes "size") number_or_none l.letters),
  sym (one_long (codes "align") align_or_none l.align),
) (nine_long _ _ _ _ _ _ _ _ _)
