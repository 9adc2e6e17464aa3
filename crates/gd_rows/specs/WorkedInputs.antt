-- Worked rows of inputs: the bytes that are typed, the lines that are heard of them, and what a node does.
use Rattle.std.specs.Prelude.{ℕ, List, [], ◌∷◌, ◌++◌, replicate, codes, Ok, Err}
use Rattle.gd_base.specs.declared.refusal.LineFault.TheVariants.{LongLine}
use Rattle.gd_effects.specs.Effects.{Effect}
use Rattle.gd_lines.specs.declared.command.Command.TheVariants as command
use Rattle.gd_lines.specs.Lines.{read}
use Rattle.gd_outside.specs.Seen.{Entry}
use Rattle.gd_reference.specs.InputLines.{Read, heard, lf, lines_of}
use Rattle.gd_reference.specs.NodeRun.{HeardLine, answers, node_lines}
use Rattle.gd_reference.specs.SlowSite.{new_site}
use Rattle.gd_rows.specs.WorkedNodes.{listening}

abbrev pub cr : ℕ
cr = 13

-- ---- how many lines there may be

-- what is heard where there may be so many
abbrev pub heard_of : ℕ → List ℕ → List HeardLine
heard_of most input = heard read most (lines_of input)

-- what a site alone does then
abbrev pub answered : ℕ → List ℕ → List Effect
answered most input = answers (new_site 1 1 7) [] (heard_of most input)

abbrev pub blank : HeardLine
blank = Read (Ok command.Blank)

-- ---- how long a line may be

abbrev pub letters : ℕ → List ℕ
letters count = replicate count 97

-- a line of so many letters in front of `quit`, and one behind it
abbrev pub letters_quit : ℕ → List ℕ
letters_quit count = letters count ++ codes "\nquit\n"

abbrev pub quit_letters : ℕ → List ℕ
quit_letters count = codes "quit\n" ++ letters count ++ lf ∷ []

-- the longest line that is heard is too long for a command
abbrev pub heard_long : List HeardLine
heard_long = Read (Err LongLine) ∷ Read (Ok command.Quit) ∷ []

-- ---- the bytes of a node's input

-- a new node 1 of 2 in session 7
abbrev pub handed : List Entry → List ℕ → List Effect
handed entries input = listening entries (node_lines input)

-- a text whose label is so many letters and one more of two bytes
abbrev pub text_line : ℕ → List ℕ
text_line count = codes "create text 0 0 10 10 " ++ letters count ++ 0xC3 ∷ 0xA9 ∷ lf ∷ []

-- labels of 501 and of 500 bytes
abbrev pub label_input : List ℕ
label_input = text_line 499 ++ text_line 498 ++ codes "quit\n"

abbrev pub label_printed : List ℕ
label_printed = codes "ready 1 of 2\nrefused: BadLabel\nok 1.1\n"

abbrev pub note_input : List ℕ
note_input = codes "name Ada\nfocus 1.1\nwho\nquit\nshow\n"

abbrev pub note_printed : List ℕ
note_printed = codes "ready 1 of 2\nnoted 1\nnoted 2\nwho 1 Ada focus 1.1\nend 1\n"
