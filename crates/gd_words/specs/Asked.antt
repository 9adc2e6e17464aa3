-- What a function returned that reads a line by rows: the fault of a name or of the number of its words, or what these
-- are read as.
use Rattle.std.specs.Prelude.{◌≡◌, ℕ, List, Result, Ok, Err}
use Rattle.gd_base.specs.Results.{Gives}
use Rattle.gd_base.specs.declared.refusal.LineFault.{LineFault}
use Rattle.gd_lines.specs.Reading.{Reader}

-- a function returned what the definition gives, where the words begin at this line
abbrev pub Asks : {X Y : Type 0} → (X → Y × List ℕ) → Result (Result X LineFault) LineFault
    → Result (Reader Y) LineFault → List ℕ → Type 0
Asks view (Ok outcome) (Ok words) line = Gives view outcome (words line)
Asks view (Err why) (Err given) line = given ≡ why
Asks view (Ok outcome) (Err given) line = ⊥
Asks view (Err why) (Ok words) line = ⊥
