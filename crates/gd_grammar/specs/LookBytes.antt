-- How looks are read and spelled. A whole look, as an object has it, has all its parts one behind the other. What is
-- set of a look has in front of each part a byte 0 where it isn't set, or 1. A lone stroke, fill or width has other
-- bytes, which there were before: so those are no style.
use Rattle.std.specs.Prelude.{ℕ, Bool, ◌&&◌, ◌==◌, List, [], ◌∷◌, ◌++◌, Option, Some, None, is_none, if◌then◌else◌}
use Rattle.std.specs.Int.{bytes_high_first}
use Rattle.gd_base.specs.Looks.{has_look, has_mark}
use Rattle.gd_base.specs.Ranges.{is_letters, is_opacity, is_round, is_width}
use Rattle.gd_base.specs.declared.look.Align.{Align}
use Rattle.gd_base.specs.declared.look.Align.TheVariants as align
use Rattle.gd_base.specs.declared.look.Dash.{Dash}
use Rattle.gd_base.specs.declared.look.Dash.TheVariants.{Solid, Dashed, Dotted}
use Rattle.gd_base.specs.declared.look.Heads.{Heads}
use Rattle.gd_base.specs.declared.look.Heads.TheVariants.{Bare, AtEnd, AtStart, AtBoth}
use Rattle.gd_base.specs.declared.look.Look.{Look}
use Rattle.gd_base.specs.declared.look.Looks.{Looks}
use Rattle.gd_grammar.specs.EventBytes.{colour_at, fill_at}
use Rattle.gd_grammar.specs.FieldBytes.{word_bytes}
use Rattle.gd_grammar.specs.Fields.{byte_at, half_at, word_at}
use Rattle.gd_grammar.specs.Reading.{Reader, pure, ranged, then_at}
use Rattle.gd_grammar.specs.Readers.{◌>>=◌, into, by_tag}

-- ---- parts, as they are read

-- a width, in one byte
unfoldable pub thin_at : Reader ℕ
thin_at bytes = then_at byte_at (λ width. ranged (is_width width) width bytes) bytes

abbrev pub dash_rows : List (ℕ × Reader Dash)
dash_rows = (0, pure Solid) ∷ (1, pure Dashed) ∷ (2, pure Dotted) ∷ []

unfoldable pub dash_at : Reader Dash
dash_at = by_tag dash_rows

abbrev pub heads_rows : List (ℕ × Reader Heads)
heads_rows = (0, pure Bare) ∷ (1, pure AtEnd) ∷ (2, pure AtStart) ∷ (3, pure AtBoth) ∷ []

unfoldable pub heads_at : Reader Heads
heads_at = by_tag heads_rows

-- FFFFFFFF is none
abbrev pub none_or : ℕ → ℕ → Option ℕ
none_or none n = if n == none then None else Some n

unfoldable pub round_at : Reader (Option ℕ)
round_at bytes = then_at word_at (λ n. ranged (is_round (none_or 0xFFFFFFFF n)) (none_or 0xFFFFFFFF n) bytes) bytes

unfoldable pub opacity_at : Reader ℕ
opacity_at bytes = then_at byte_at (λ n. ranged (is_opacity n) n bytes) bytes

-- 0 is none
unfoldable pub letters_at : Reader (Option ℕ)
letters_at bytes = then_at half_at (λ n. ranged (is_letters (none_or 0 n)) (none_or 0 n) bytes) bytes

abbrev pub align_rows : List (ℕ × Reader (Option Align))
align_rows = (0, pure None) ∷ (1, pure (Some align.Start)) ∷ (2, pure (Some align.Middle)) ∷ (3, pure (Some align.End))
    ∷ []

unfoldable pub align_at : Reader (Option Align)
align_at = by_tag align_rows

-- ---- looks, as they are read

unfoldable pub look_at : Reader Look
look_at = do
  stroke ← colour_at
  fill ← fill_at
  width ← thin_at
  dash ← dash_at
  heads ← heads_at
  round ← round_at
  opacity ← opacity_at
  letters ← letters_at
  align ← align_at
  pure (record {
    stroke = stroke;
    fill = fill;
    width = width;
    dash = dash;
    heads = heads;
    round = round;
    opacity = opacity;
    letters = letters;
    align = align;
  })

-- a part that may be set
abbrev pub set_rows : {A : Type 0} → Reader A → List (ℕ × Reader (Option A))
set_rows value = (0, pure None) ∷ (1, into Some value) ∷ []

unfoldable pub if_set : {A : Type 0} → Reader A → Reader (Option A)
if_set value = by_tag (set_rows value)

unfoldable pub all_looks_at : Reader Looks
all_looks_at = do
  stroke ← if_set colour_at
  fill ← if_set fill_at
  width ← if_set thin_at
  dash ← if_set dash_at
  heads ← if_set heads_at
  round ← if_set round_at
  opacity ← if_set opacity_at
  letters ← if_set letters_at
  align ← if_set align_at
  pure (record {
    stroke = stroke;
    fill = fill;
    width = width;
    dash = dash;
    heads = heads;
    round = round;
    opacity = opacity;
    letters = letters;
    align = align;
  })

-- ---- parts, as they are spelled

-- a colour, or FFFFFFFF for none
abbrev pub fill_bytes : Option ℕ → List ℕ
fill_bytes None = word_bytes 0xFFFFFFFF
fill_bytes (Some colour) = word_bytes colour

abbrev pub dash_byte : Dash → ℕ
dash_byte Solid = 0
dash_byte Dashed = 1
dash_byte Dotted = 2

abbrev pub heads_byte : Heads → ℕ
heads_byte Bare = 0
heads_byte AtEnd = 1
heads_byte AtStart = 2
heads_byte AtBoth = 3

abbrev pub round_bytes : Option ℕ → List ℕ
round_bytes None = word_bytes 0xFFFFFFFF
round_bytes (Some round) = word_bytes round

abbrev pub letters_bytes : Option ℕ → List ℕ
letters_bytes None = bytes_high_first 2 0
letters_bytes (Some letters) = bytes_high_first 2 letters

abbrev pub align_byte : Option Align → ℕ
align_byte None = 0
align_byte (Some align.Start) = 1
align_byte (Some align.Middle) = 2
align_byte (Some align.End) = 3

-- ---- looks, as they are spelled

unfoldable pub look_bytes : Look → List ℕ
look_bytes l =
    word_bytes l.stroke ++ fill_bytes l.fill ++ l.width ∷ dash_byte l.dash ∷ heads_byte l.heads ∷ round_bytes l.round
    ++ l.opacity ∷ letters_bytes l.letters ++ align_byte l.align ∷ []

abbrev pub set_bytes : {A : Type 0} → (A → List ℕ) → Option A → List ℕ
set_bytes bytes_of None = 0 ∷ []
set_bytes bytes_of (Some value) = 1 ∷ bytes_of value

-- what is a byte
abbrev pub single : {A : Type 0} → (A → ℕ) → A → List ℕ
single byte_of value = byte_of value ∷ []

unfoldable pub looks_bytes : Looks → List ℕ
looks_bytes l =
    set_bytes word_bytes l.stroke ++ set_bytes fill_bytes l.fill ++ set_bytes (single (λ n. n)) l.width
    ++ set_bytes (single dash_byte) l.dash ++ set_bytes (single heads_byte) l.heads ++ set_bytes round_bytes l.round
    ++ set_bytes (single (λ n. n)) l.opacity ++ set_bytes letters_bytes l.letters
    ++ set_bytes (single align_byte) l.align

-- ---- a lone part

-- the bytes of a stroke, a fill or a width that is set alone: which it is, and its value
abbrev pub lone_by : Option ℕ → Option (Option ℕ) → Option ℕ → Option (List ℕ)
lone_by (Some stroke) None None = Some (1 ∷ word_bytes stroke)
lone_by None (Some fill) None = Some (2 ∷ fill_bytes fill)
lone_by None None (Some width) = Some (3 ∷ word_bytes width)
lone_by stroke fill width = None

abbrev pub lone : Looks → Option (List ℕ)
lone l = if has_mark l then None else lone_by l.stroke l.fill l.width

-- something is set, and not as a lone part
abbrev pub is_style : Looks → Bool
is_style l = has_look l && is_none (lone l)
