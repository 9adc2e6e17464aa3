-- The lines of a rehearsal, and what they ask for. `at` is followed by a site and a command, whose name is known and
-- whose words are counted before the site is read: the faults of the whole line come in the same order as those of a
-- command.
use Rattle.std.specs.Prelude.{ℕ, ◌-◌, ◌^◌, List, [], ◌∷◌, Result, Ok, Err, codes}
use Rattle.gd_base.specs.declared.ranges.TheConstants.{SITES}
use Rattle.gd_base.specs.declared.refusal.LineFault.{LineFault}
use Rattle.gd_lines.specs.declared.command.Command.{Command}
use Rattle.gd_lines.specs.declared.command.ScriptLine.{ScriptLine}
use Rattle.gd_lines.specs.declared.command.ScriptLine.TheVariants.{Blank, At, Send, Deliver, Quit}
use Rattle.gd_lines.specs.Edits.{natural_at}
use Rattle.gd_lines.specs.LineWords.{word, behind, without_cr}
use Rattle.gd_lines.specs.Lines.{alone, asked_rows}
use Rattle.gd_lines.specs.Readers.{◌>>=◌}
use Rattle.gd_lines.specs.Reading.{Reader, fault, pure, word_at}
use Rattle.gd_lines.specs.Rows.{Row, at_least, by_name, exactly, line_by, row}

unfoldable pub site_at : Reader ℕ
site_at line = natural_at 1 SITES line

unfoldable pub mail_at : Reader ℕ
mail_at line = natural_at 0 (2 ^ 32 - 1) line

-- a site, a command's name, and its words
abbrev pub site_words : Result (Reader Command) LineFault → Reader ScriptLine
site_words (Err why) = fault why
site_words (Ok words) = do
  site ← site_at
  name ← word_at
  command ← words
  pure (At site command)

unfoldable pub at_words : ℕ → Reader ScriptLine
at_words n line = site_words (by_name asked_rows (word (behind line)) (n - 2)) line

unfoldable pub send_words : Reader ScriptLine
send_words = do
  from ← site_at
  to ← site_at
  pure (Send from to)

unfoldable pub deliver_words : Reader ScriptLine
deliver_words = do
  mail ← mail_at
  pure (Deliver mail)

unfoldable pub script_rows : List (Row ScriptLine)
script_rows =
    row (codes "at") (at_least 2) at_words
    ∷ row (codes "send") (exactly 2) (λ n. send_words)
    ∷ row (codes "deliver") (exactly 1) (λ n. deliver_words)
    ∷ alone (codes "quit") Quit
    ∷ []

-- what a line of a rehearsal asks for; it may have a CR at its end
unfoldable pub read_script : List ℕ → Result ScriptLine LineFault
read_script bytes = line_by script_rows Blank (without_cr bytes)
