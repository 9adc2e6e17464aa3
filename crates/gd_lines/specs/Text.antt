-- The lines of a drawing, which are a line for each shown object in printed order and then the number of these lines;
-- and the line of bytes that are no log.
use Rattle.std.specs.Prelude.{ℕ, ◌+◌, ◌/◌, ◌%◌, ℤ, List, [], ◌∷◌, ◌++◌, length, map, Option, Some, None, ◌==◌, nat_lt}
use Rattle.std.specs.Prelude.{nat_le, codes, decimal, if◌then◌else◌}
use Rattle.std.specs.Fmt.{signed_decimal}
use Rattle.std.specs.List.{flat_map}
use Rattle.gd_base.specs.Stamps.{Stamp}
use Rattle.gd_base.specs.declared.shape.Shape as shape
use Rattle.gd_base.specs.declared.shape.Shape.TheVariants.{Rect, Ellipse, Line, Text}
use Rattle.gd_base.specs.declared.fault.LogWhy.{LogWhy}
use Rattle.gd_base.specs.declared.fault.LogWhy.TheVariants as why
use Rattle.gd_base.specs.declared.fault.ViewWhy.{ViewWhy}
use Rattle.gd_base.specs.declared.fault.ViewWhy.TheVariants as view
use Rattle.gd_base.specs.declared.item.Body.{Body}
use Rattle.gd_base.specs.declared.item.Body.TheVariants as body
use Rattle.gd_base.specs.declared.item.Item.{Item}
use Rattle.gd_base.specs.declared.item.JoinedItem.{JoinedItem}
use Rattle.gd_base.specs.declared.item.ShapeItem.{ShapeItem}
use Rattle.gd_base.specs.declared.look.Align.{Align}
use Rattle.gd_base.specs.declared.look.Align.TheVariants as align
use Rattle.gd_base.specs.declared.look.Dash.{Dash}
use Rattle.gd_base.specs.declared.look.Dash.TheVariants.{Solid, Dashed, Dotted}
use Rattle.gd_base.specs.declared.look.Heads.{Heads}
use Rattle.gd_base.specs.declared.look.Heads.TheVariants.{Bare, AtEnd, AtStart, AtBoth}
use Rattle.gd_base.specs.declared.look.Look.{Look}
use Rattle.gd_base.specs.declared.object.Ends.{Ends}
use Rattle.gd_base.specs.declared.ranges.TheConstants.{OPACITY_LIMIT}

-- a hexadecimal digit, in upper case
unfoldable pub hex_digit : ℕ → ℕ
hex_digit d = if nat_lt d 10 then 48 + d else 55 + d

-- the digit of that weight
unfoldable pub nibble : ℕ → ℕ → ℕ
nibble number weight = hex_digit (number / weight % 16)

-- the digits before the last six of a number of at most four bytes
unfoldable pub high_digits : ℕ → List ℕ
high_digits c =
    if nat_le 0x10000000 c then nibble c 0x10000000 ∷ nibble c 0x1000000 ∷ []
    else if nat_le 0x1000000 c then nibble c 0x1000000 ∷ []
    else []

-- a number of at most four bytes, as a colour is: as many digits as it needs, and at least six
unfoldable pub colour_text : ℕ → List ℕ
colour_text c =
    high_digits c ++ nibble c 0x100000 ∷ nibble c 0x10000 ∷ nibble c 0x1000 ∷ nibble c 0x100
    ∷ nibble c 0x10 ∷ nibble c 1 ∷ []

-- clock.site
unfoldable pub id_text : Stamp → List ℕ
id_text id = decimal id.clock ++ codes "." ++ decimal id.site

abbrev pub shape_word : shape.Shape → List ℕ
shape_word Rect = codes "rect"
shape_word Ellipse = codes "ellipse"
shape_word Line = codes "line"
shape_word Text = codes "text"

abbrev pub kind_word : Body → List ℕ
kind_word (body.Shape shape) = shape_word shape.kind
kind_word (body.Joined joined) = codes "connector"
kind_word body.Group = codes "group"

-- an id, or that there is none
abbrev pub parent_text : Option Stamp → List ℕ
parent_text None = codes "-"
parent_text (Some id) = id_text id

abbrev pub fill_text : Option ℕ → List ℕ
fill_text None = codes "none"
fill_text (Some colour) = colour_text colour

-- a byte of a label as it is printed
abbrev pub escaped_byte : ℕ → List ℕ
escaped_byte b = if b == 10 then codes "\\n" else if b == 92 then codes "\\\\" else b ∷ []

-- a label on a line: a line feed is a backslash and an n, and a backslash is two of them
unfoldable pub escaped : List ℕ → List ℕ
escaped text = flat_map escaped_byte text

abbrev pub label_text : List ℕ → List ℕ
label_text label = if length label == 0 then [] else codes " text " ++ escaped label

unfoldable pub place_text : ℤ → ℤ → List ℕ
place_text x y = codes " at " ++ signed_decimal x ++ codes " " ++ signed_decimal y

unfoldable pub between_text : Ends → List ℕ
between_text ends = codes " from " ++ id_text ends.from ++ codes " to " ++ id_text ends.to

-- where it is: at a place, or between its ends
abbrev pub where_text : Item → Body → List ℕ
where_text i (body.Joined joined) = between_text joined.ends
where_text i other = place_text i.at.x i.at.y

-- what it is, its id, its effective parent, and where it is
unfoldable pub head_text : Item → List ℕ
head_text i =
    kind_word i.body ++ codes " " ++ id_text i.id ++ codes " in " ++ parent_text i.parent ++ where_text i i.body

unfoldable pub size_text : ℤ → ℤ → List ℕ
size_text w h = codes " size " ++ signed_decimal w ++ codes " " ++ signed_decimal h

unfoldable pub colours_text : ℕ → Option ℕ → List ℕ
colours_text stroke fill =
    codes " stroke " ++ colour_text stroke ++ codes " fill " ++ fill_text fill

unfoldable pub width_text : ℕ → List ℕ
width_text width = codes " width " ++ decimal width

-- ---- looks that aren't as they are made

abbrev pub dash_text : Dash → List ℕ
dash_text Solid = []
dash_text Dashed = codes " dash dashed"
dash_text Dotted = codes " dash dotted"

abbrev pub heads_text : Heads → List ℕ
heads_text Bare = []
heads_text AtEnd = codes " heads end"
heads_text AtStart = codes " heads start"
heads_text AtBoth = codes " heads both"

abbrev pub round_text : Option ℕ → List ℕ
round_text None = []
round_text (Some round) = codes " round " ++ decimal round

abbrev pub opacity_text : ℕ → List ℕ
opacity_text opacity = if opacity == OPACITY_LIMIT then [] else codes " opacity " ++ decimal opacity

abbrev pub letters_text : Option ℕ → List ℕ
letters_text None = []
letters_text (Some letters) = codes " size " ++ decimal letters

abbrev pub align_word : Align → List ℕ
align_word align.Start = codes "start"
align_word align.Middle = codes "middle"
align_word align.End = codes "end"

abbrev pub align_text : Option Align → List ℕ
align_text None = []
align_text (Some a) = codes " align " ++ align_word a

unfoldable pub marks_text : Look → List ℕ
marks_text l =
    dash_text l.dash ++ heads_text l.heads ++ round_text l.round ++ opacity_text l.opacity ++ letters_text l.letters
    ++ align_text l.align

-- how something looks
unfoldable pub style_text : Look → List ℕ
style_text l = colours_text l.stroke l.fill ++ width_text l.width ++ marks_text l

-- what only a shape has
unfoldable pub look_text : ShapeItem → List ℕ
look_text s = size_text s.w s.h ++ style_text s.look ++ label_text s.label

-- what only a connector has, but for its ends
unfoldable pub joined_text : JoinedItem → List ℕ
joined_text j = style_text j.look ++ label_text j.label

abbrev pub look_of : Body → List ℕ
look_of (body.Shape shape) = look_text shape
look_of (body.Joined joined) = joined_text joined
look_of body.Group = []

unfoldable pub item_line : Item → List ℕ
item_line i = head_text i ++ look_of i.body ++ codes "\n"

unfoldable pub end_line : ℕ → List ℕ
end_line count = codes "end " ++ decimal count ++ codes "\n"

-- the lines of these items
abbrev pub lines : List Item → List (List ℕ)
lines is = map item_line is ++ end_line (length is) ∷ []

-- the reasons of a log's faults
abbrev pub why_word : LogWhy → List ℕ
why_word why.Short = codes "Short"
why_word why.Magic = codes "Magic"
why_word why.Version = codes "Version"
why_word why.Field = codes "Field"
why_word why.FutureId = codes "FutureId"
why_word why.MemberOrder = codes "MemberOrder"
why_word why.NoSite = codes "NoSite"
why_word why.Turn = codes "Turn"
why_word why.Backdated = codes "Backdated"
why_word why.Check = codes "Check"
why_word why.Behind = codes "Behind"

-- the place and the reason of a log's first fault
unfoldable pub bad_log_line : ℕ → LogWhy → List ℕ
bad_log_line at why = codes "bad log at " ++ decimal at ++ codes ": " ++ why_word why ++ codes "\n"

-- the reasons of a view's faults
abbrev pub view_word : ViewWhy → List ℕ
view_word view.Short = codes "Short"
view_word view.Magic = codes "Magic"
view_word view.Version = codes "Version"
view_word view.Field = codes "Field"
view_word view.FutureId = codes "FutureId"
view_word view.MemberOrder = codes "MemberOrder"
view_word view.Order = codes "Order"
view_word view.Bound = codes "Bound"
view_word view.Long = codes "Long"

-- the place and the reason of a view's first fault
unfoldable pub bad_view_line : ℕ → ViewWhy → List ℕ
bad_view_line at why = codes "bad view at " ++ decimal at ++ codes ": " ++ view_word why ++ codes "\n"
