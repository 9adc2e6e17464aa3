-- What is printed of a log that was read, before its counts.
use Rattle.std.specs.Prelude.{ℕ, List, [], ◌∷◌}
use Rattle.gd_lines.specs.Text.{lines}
use Rattle.gd_log.specs.declared.lines.Lines.{Lines}
use Rattle.gd_log.specs.declared.lines.Lines.TheVariants.{Text, Json}

abbrev pub lines_in : Lines → List (List ℕ)
lines_in (Text picture) = lines picture
lines_in (Json line) = line ∷ []
