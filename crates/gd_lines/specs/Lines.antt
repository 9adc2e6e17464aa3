-- The lines that people type, and what they ask for: a row for each command. Words that are read have no meaning beyond
-- their value, so every list of bytes has exactly one outcome: a command or a fault.
use Rattle.std.specs.Prelude.{ℕ, List, ◌∷◌, Option, Result, codes}
use Rattle.gd_base.specs.Stamps.{Stamp}
use Rattle.gd_base.specs.declared.refusal.LineFault.{LineFault}
use Rattle.gd_base.specs.declared.refusal.LineFault.TheVariants.{BadId, BadLabel}
use Rattle.gd_lines.specs.declared.command.Command.{Command}
use Rattle.gd_lines.specs.declared.command.Command.TheVariants as command
use Rattle.gd_lines.specs.declared.command.Turn.TheVariants.{Undo, Redo}
use Rattle.gd_lines.specs.Edits.{edit_rows}
use Rattle.gd_lines.specs.LineWords.{without_cr}
use Rattle.gd_lines.specs.Readers.{◌>>=◌}
use Rattle.gd_lines.specs.Reading.{Reader, next, pure}
use Rattle.gd_lines.specs.Rows.{Row, exactly, line_by, row}
use Rattle.gd_lines.specs.WordKinds.{focus, name}

unfoldable pub focus_at : Reader (Option Stamp)
focus_at line = next BadId focus line

unfoldable pub name_at : Reader (List ℕ)
name_at line = next BadLabel name line

unfoldable pub focus_words : Reader Command
focus_words = do
  focus ← focus_at
  pure (command.Focus focus)

unfoldable pub name_words : Reader Command
name_words = do
  name ← name_at
  pure (command.Name name)

-- a name that no word follows
abbrev pub alone : {A : Type 0} → List ℕ → A → Row A
alone name value = row name (exactly 0) (λ n. pure value)

-- what a site of a rehearsal may be asked for too
unfoldable pub asked_rows : List (Row Command)
asked_rows =
    alone (codes "undo") (command.Turn Undo)
    ∷ alone (codes "redo") (command.Turn Redo)
    ∷ alone (codes "show") command.Show
    ∷ alone (codes "status") command.Status
    ∷ row (codes "focus") (exactly 1) (λ n. focus_words)
    ∷ row (codes "name") (exactly 1) (λ n. name_words)
    ∷ alone (codes "who") command.Who
    ∷ edit_rows

unfoldable pub command_rows : List (Row Command)
command_rows =
    alone (codes "begin") command.Begin
    ∷ alone (codes "end") command.End
    ∷ alone (codes "poll") command.Poll
    ∷ alone (codes "quit") command.Quit
    ∷ asked_rows

-- the command of a line, which may have a CR at its end
unfoldable pub read : List ℕ → Result Command LineFault
read bytes = line_by command_rows command.Blank (without_cr bytes)
