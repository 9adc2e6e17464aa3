-- The bytes of a stroke, a fill or a width that is set alone: which it is, and its value.
use Rattle.std.specs.Prelude.{ℕ, List, ◌∷◌}
use Rattle.gd_grammar.specs.FieldBytes.{word_bytes}
use Rattle.gd_grammar.specs.LookBytes.{fill_bytes}
use Rattle.gd_wire.specs.declared.looks.Lone.{Lone}
use Rattle.gd_wire.specs.declared.looks.Lone.TheVariants.{Stroke, Fill, Width}

abbrev pub lone_bytes : Lone → List ℕ
lone_bytes (Stroke stroke) = 1 ∷ word_bytes stroke
lone_bytes (Fill fill) = 2 ∷ fill_bytes fill
lone_bytes (Width width) = 3 ∷ word_bytes width
