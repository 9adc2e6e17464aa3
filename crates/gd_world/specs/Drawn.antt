-- What is drawn for a churn: lines, and edits of one of the ids that were made.
use Rattle.std.specs.Prelude.{◌≡◌, ℕ, List, [], ◌∷◌, Option, Some}
use Rattle.rand_pcg.specs.Lcg.{Lcg}
use Rattle.gd_base.specs.Stamps.{Stamp}
use Rattle.gd_lines.specs.Edits.{Edit}
use Rattle.gd_lines.specs.InRange.{IsEdit}
use Rattle.gd_lines.specs.declared.command.Command.TheVariants as command
use Rattle.gd_lines.specs.declared.command.Turn.{Turn}
use Rattle.gd_lines.specs.declared.command.ScriptLine.{ScriptLine}
use Rattle.gd_lines.specs.declared.command.ScriptLine.TheVariants as script
use Rattle.gd_worlds.specs.Churn.{Draws, pick}

-- a site is asked for an edit
abbrev pub edit_at : ℕ → Edit → Option ScriptLine
edit_at site edit = Some (script.At site (command.Edit edit))

-- a site is asked to take an edit back, or to do one again
abbrev pub turn_at : ℕ → Turn → Option ScriptLine
turn_at site which = Some (script.At site (command.Turn which))

-- this was drawn by picks among these ids, of which there is at least one
abbrev pub IsOfOne : {A : Type 0} → (Draws Stamp → Draws A) → List Stamp → A → Lcg → Lcg → Type 0
IsOfOne draw [] drawn before after = ⊥
IsOfOne draw (first ∷ rest) drawn before after = (drawn, after) ≡ draw (pick first rest) before

-- the lines that a churn plays: an edit in its ranges, an undo or a redo, a send, or a delivery
abbrev pub IsPlayed : ScriptLine → Type 0
IsPlayed (script.At site (command.Edit edit)) = IsEdit edit
IsPlayed (script.At site (command.Turn which)) = Unit {0}
IsPlayed (script.Send from to) = Unit {0}
IsPlayed (script.Deliver mail) = Unit {0}
IsPlayed other = ⊥
