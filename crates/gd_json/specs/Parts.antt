-- What drawings and events have in common. An id, a kind and a colour are strings, as they are printed in lines. Where
-- there is no parent or no fill stands null.
use Rattle.std.specs.Prelude.{ℕ, ℤ, List, [], ◌∷◌, ◌++◌, ◌==◌, Option, Some, None, codes, decimal, if◌then◌else◌}
use Rattle.std.specs.Fmt.{signed_decimal}
use Rattle.gd_base.specs.Stamps.{Stamp}
use Rattle.gd_base.specs.declared.look.Align.{Align}
use Rattle.gd_base.specs.declared.look.Dash.{Dash}
use Rattle.gd_base.specs.declared.look.Dash.TheVariants.{Solid, Dashed, Dotted}
use Rattle.gd_base.specs.declared.look.Heads.{Heads}
use Rattle.gd_base.specs.declared.look.Heads.TheVariants.{Bare, AtEnd, AtStart, AtBoth}
use Rattle.gd_base.specs.declared.look.Look.{Look}
use Rattle.gd_base.specs.declared.ranges.TheConstants.{OPACITY_LIMIT}
use Rattle.gd_base.specs.declared.shape.Shape.{Shape}
use Rattle.gd_lines.specs.OpText.{dash_word, heads_word}
use Rattle.gd_lines.specs.Text.{align_word, colour_text, id_text, shape_word}
use Rattle.gd_json.specs.Values.{Field, array, null, plain}

-- a place or a size
abbrev pub two : ℤ → ℤ → List ℕ
two x y = array (signed_decimal x ∷ signed_decimal y ∷ [])

abbrev pub id_json : Stamp → List ℕ
id_json id = plain (id_text id)

abbrev pub id_or_null : Option Stamp → List ℕ
id_or_null None = null
id_or_null (Some id) = id_json id

abbrev pub colour_json : ℕ → List ℕ
colour_json colour = plain (colour_text colour)

abbrev pub colour_or_null : Option ℕ → List ℕ
colour_or_null None = null
colour_or_null (Some colour) = colour_json colour

abbrev pub kind_json : Shape → List ℕ
kind_json kind = plain (shape_word kind)

-- ---- looks

abbrev pub dash_json : Dash → List ℕ
dash_json dash = plain (dash_word dash)

abbrev pub heads_json : Heads → List ℕ
heads_json heads = plain (heads_word heads)

abbrev pub number_or_null : Option ℕ → List ℕ
number_or_null None = null
number_or_null (Some n) = decimal n

abbrev pub align_or_null : Option Align → List ℕ
align_or_null None = null
align_or_null (Some a) = plain (align_word a)

-- ---- of a look what isn't as it is made

abbrev pub dash_field : Dash → List Field
dash_field Solid = []
dash_field Dashed = (codes "dash", dash_json Dashed) ∷ []
dash_field Dotted = (codes "dash", dash_json Dotted) ∷ []

abbrev pub heads_field : Heads → List Field
heads_field Bare = []
heads_field AtEnd = (codes "heads", heads_json AtEnd) ∷ []
heads_field AtStart = (codes "heads", heads_json AtStart) ∷ []
heads_field AtBoth = (codes "heads", heads_json AtBoth) ∷ []

abbrev pub round_field : Option ℕ → List Field
round_field None = []
round_field (Some n) = (codes "round", decimal n) ∷ []

abbrev pub opacity_field : ℕ → List Field
opacity_field n = if n == OPACITY_LIMIT then [] else (codes "opacity", decimal n) ∷ []

abbrev pub letters_field : Option ℕ → List Field
letters_field None = []
letters_field (Some n) = (codes "letters", decimal n) ∷ []

abbrev pub align_field : Option Align → List Field
align_field None = []
align_field (Some a) = (codes "align", plain (align_word a)) ∷ []

-- how something looks
abbrev pub style_fields : Look → List Field
style_fields l =
    (codes "stroke", colour_json l.stroke) ∷ (codes "fill", colour_or_null l.fill) ∷ (codes "width", decimal l.width)
    ∷ dash_field l.dash ++ heads_field l.heads ++ round_field l.round ++ opacity_field l.opacity
    ++ letters_field l.letters
    ++ align_field l.align
