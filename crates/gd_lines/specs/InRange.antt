-- The ranges of what is read: of an edit its numbers, its ids, its label and how many members its group has; of other
-- commands the focus and the name; and in a rehearsal the sites, and what a site is asked for.
use Rattle.std.specs.Prelude.{◌≡◌, ◌≤◌, ◌&&◌, true, Some, length}
use Rattle.std.specs.List.{AllByRecursion}
use Rattle.gd_base.specs.Stamps.{IsStamp}
use Rattle.gd_base.specs.Sites.{IsSite}
use Rattle.gd_base.specs.declared.ranges.TheConstants.{MOST_MEMBERS}
use Rattle.gd_base.specs.Labels.{IsLabel, is_name}
use Rattle.gd_base.specs.Ranges.{place_limit, size_limit, is_within}
use Rattle.gd_base.specs.Contents.{IsSaid}
use Rattle.gd_base.specs.Typed.{AreEnds}
use Rattle.gd_base.specs.declared.op.Op.TheVariants as op
use Rattle.gd_lines.specs.Edits.{Edit}
use Rattle.gd_lines.specs.declared.command.Command.{Command}
use Rattle.gd_lines.specs.declared.command.Command.TheVariants as command
use Rattle.gd_lines.specs.declared.command.ScriptLine.{ScriptLine}
use Rattle.gd_lines.specs.declared.command.ScriptLine.TheVariants as script

-- the numbers of the edit are in their ranges, its ids are stamps, its label is one, and its group has 2 to 32 members.
-- Nobody asks for the rest
abbrev pub IsEdit : Edit → Type 0
IsEdit (op.Create kind x y w h label) =
    (is_within place_limit x && (is_within place_limit y
    && (is_within size_limit w && is_within size_limit h)) ≡ true)
    × IsLabel label
IsEdit (op.Delete id) = IsStamp id
IsEdit (op.Set id content) = IsStamp id × IsSaid content
IsEdit (op.Connect ends label) = AreEnds (Some ends) × IsLabel label
IsEdit (op.Group ids) = (2 ≤ length ids) × (length ids ≤ MOST_MEMBERS) × AllByRecursion IsStamp ids
IsEdit other = ⊥

abbrev pub IsCommand : Command → Type 0
IsCommand (command.Edit edit) = IsEdit edit
IsCommand (command.Focus (Some id)) = IsStamp id
IsCommand (command.Name name) = is_name name ≡ true
IsCommand other = Unit {0}

-- what a site of a rehearsal may be asked for: there is no link that it could poll, and the run's end is its own line
abbrev pub IsAsked : Command → Type 0
IsAsked command.Blank = ⊥
IsAsked command.Poll = ⊥
IsAsked command.Quit = ⊥
IsAsked command.Begin = ⊥
IsAsked command.End = ⊥
IsAsked other = Unit {0}

abbrev pub IsScriptLine : ScriptLine → Type 0
IsScriptLine (script.At site command) = IsSite site × IsCommand command × IsAsked command
IsScriptLine (script.Send from to) = IsSite from × IsSite to
IsScriptLine other = Unit {0}
