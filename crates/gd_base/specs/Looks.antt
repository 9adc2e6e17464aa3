-- Looks: how an object looks, and new values for some parts of that. What is set is put in part by part, so two who set
-- different parts of one look both get theirs.
use Rattle.std.specs.Prelude.{ℕ, Bool, ◌&&◌, ◌||◌, Option, None, Some, option_map, unwrap_or, is_some}
use Rattle.gd_base.specs.Ranges.{is_colour, is_fill, is_letters, is_opacity, is_round, is_width}
use Rattle.gd_base.specs.declared.look.Dash.TheVariants.{Solid}
use Rattle.gd_base.specs.declared.look.Heads.{Heads}
use Rattle.gd_base.specs.declared.look.Look.{Look}
use Rattle.gd_base.specs.declared.look.Looks.{Looks}
use Rattle.gd_base.specs.declared.ranges.TheConstants.{OPACITY_LIMIT}

-- black, not filled, of width 1, solid, opaque, all else as the kind has it, and with these heads
abbrev pub new_look : Heads → Look
new_look heads =
    record {
      stroke = 0;
      fill = None;
      width = 1;
      dash = Solid;
      heads = heads;
      round = None;
      opacity = OPACITY_LIMIT;
      letters = None;
      align = None;
    }

-- nothing is set
abbrev pub no_looks : Looks
no_looks =
    record {
      stroke = None;
      fill = None;
      width = None;
      dash = None;
      heads = None;
      round = None;
      opacity = None;
      letters = None;
      align = None;
    }

abbrev pub only_stroke : ℕ → Looks
only_stroke stroke = record no_looks { stroke = Some stroke }

abbrev pub only_fill : Option ℕ → Looks
only_fill fill = record no_looks { fill = Some fill }

abbrev pub only_width : ℕ → Looks
only_width width = record no_looks { width = Some width }

-- ---- ranges

abbrev pub are_marks : Option ℕ → ℕ → Option ℕ → Bool
are_marks round opacity letters = is_round round && (is_opacity opacity && is_letters letters)

abbrev pub is_look : Look → Bool
is_look l = is_colour l.stroke && (is_fill l.fill && (is_width l.width && are_marks l.round l.opacity l.letters))

abbrev pub has_late_mark : Looks → Bool
has_late_mark l = is_some l.opacity || (is_some l.letters || is_some l.align)

-- a part that is none of stroke, fill and width
abbrev pub has_mark : Looks → Bool
has_mark l = is_some l.dash || (is_some l.heads || (is_some l.round || has_late_mark l))

-- a part is set
abbrev pub has_look : Looks → Bool
has_look l = is_some l.stroke || (is_some l.fill || (is_some l.width || has_mark l))

-- what is set is in its range
abbrev pub are_numbers : Looks → Bool
are_numbers l =
    is_colour (unwrap_or l.stroke 0)
    && (is_fill (unwrap_or l.fill None)
    && (is_width (unwrap_or l.width 1)
    && are_marks (unwrap_or l.round None) (unwrap_or l.opacity 1) (unwrap_or l.letters None)))

abbrev pub are_looks : Looks → Bool
are_looks l = has_look l && are_numbers l

-- ---- part by part

-- the value, where one is set
abbrev pub instead : {A : Type 0} → Option A → A → Option A
instead set x = option_map (λ old. x) set

-- the other one, where one is set
abbrev pub kept : {A : Type 0} → Option A → Option A → Option A
kept None other = None
kept (Some x) other = other

-- what is set, in the place of another one
abbrev pub put_over : {A : Type 0} → Option A → Option A → Option A
put_over set other = option_map (λ old. unwrap_or set old) other

-- what the look has of the parts that are set
abbrev pub taken : Looks → Look → Looks
taken l look =
    record {
      stroke = instead l.stroke look.stroke;
      fill = instead l.fill look.fill;
      width = instead l.width look.width;
      dash = instead l.dash look.dash;
      heads = instead l.heads look.heads;
      round = instead l.round look.round;
      opacity = instead l.opacity look.opacity;
      letters = instead l.letters look.letters;
      align = instead l.align look.align;
    }

-- the look with what is set
abbrev pub given : Looks → Look → Look
given l look =
    record {
      stroke = unwrap_or l.stroke look.stroke;
      fill = unwrap_or l.fill look.fill;
      width = unwrap_or l.width look.width;
      dash = unwrap_or l.dash look.dash;
      heads = unwrap_or l.heads look.heads;
      round = unwrap_or l.round look.round;
      opacity = unwrap_or l.opacity look.opacity;
      letters = unwrap_or l.letters look.letters;
      align = unwrap_or l.align look.align;
    }

-- those of others that l sets too
abbrev pub within : Looks → Looks → Looks
within l others =
    record {
      stroke = kept l.stroke others.stroke;
      fill = kept l.fill others.fill;
      width = kept l.width others.width;
      dash = kept l.dash others.dash;
      heads = kept l.heads others.heads;
      round = kept l.round others.round;
      opacity = kept l.opacity others.opacity;
      letters = kept l.letters others.letters;
      align = kept l.align others.align;
    }

-- the others, with what l sets in the place of theirs
abbrev pub laid : Looks → Looks → Looks
laid l others =
    record {
      stroke = put_over l.stroke others.stroke;
      fill = put_over l.fill others.fill;
      width = put_over l.width others.width;
      dash = put_over l.dash others.dash;
      heads = put_over l.heads others.heads;
      round = put_over l.round others.round;
      opacity = put_over l.opacity others.opacity;
      letters = put_over l.letters others.letters;
      align = put_over l.align others.align;
    }
