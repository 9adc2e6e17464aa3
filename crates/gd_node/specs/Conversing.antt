-- A node as its lines see it: the state of the reference run that it stands for, and what a line owes there.
use Rattle.std.specs.Prelude.{◌≡◌, Bool, true, false, List, [], Option, None, Some, Ok, if◌then◌else◌}
use Rattle.gd_dialogue.specs.Owing.{without_entries}
use Rattle.gd_lines.specs.declared.command.Command.TheVariants as command
use Rattle.gd_node.specs.Gesturing.{AreAsked}
use Rattle.gd_node.specs.Meeting.{Meets}
use Rattle.gd_node.specs.Owing.{NodeOwed}
use Rattle.gd_node.specs.declared.conversation.Conversation.{Conversation}
use Rattle.gd_outside.specs.Seen.{SeenJournal}
use Rattle.gd_reference.specs.NodeRun.{NodeState, ReadLine, after_line_alone, after_line_of, after_line_within}
use Rattle.gd_reference.specs.NodeRun.{entries_after, entries_left_of, of_line_alone, of_line_of, of_line_within}
use Rattle.gd_reference.specs.NodeRun.{with_waiting}
use Rattle.gd_reference.specs.TakeBack.{Asked}

-- ---- what it stands for

-- the edits that wait, where a gesture has begun, are in their ranges
abbrev pub AreAskedOf : Option (List Asked) → Type 0
AreAskedOf None = Unit {0}
AreAskedOf (Some asked) = AreAsked asked

-- the conversation stands for this state: its member for the site, and the same lines wait, each edit in its ranges
pub record MeetsState (state : NodeState) (conversation : Conversation) (journal : SeenJournal) : Type 0 where
  pub member : Meets state.site conversation.member journal
  pub waiting : conversation.waiting ≡ state.waiting
  pub ranged : AreAskedOf state.waiting

-- ---- what its member owes for a line

-- while no gesture has begun
abbrev pub for_alone : ReadLine → NodeOwed
for_alone line = record {
  effects = λ slow entries. of_line_alone slow entries line;
  state = λ slow entries. (after_line_alone slow entries line).site;
  left = λ slow entries. entries_after slow entries line;
}

-- in a gesture of which these lines wait
abbrev pub for_within : List Asked → ReadLine → NodeOwed
for_within asked line =
    without_entries (λ slow. of_line_within slow asked line) (λ slow. (after_line_within slow asked line).site)

-- where these lines wait, if a gesture has begun
abbrev pub for_waiting : Option (List Asked) → ReadLine → NodeOwed
for_waiting waiting line = record {
  effects = λ slow entries. of_line_of slow waiting entries line;
  state = λ slow entries. (after_line_of slow waiting entries line).site;
  left = λ slow entries. entries_left_of slow waiting entries line;
}

-- ---- the lines that wait behind it

abbrev pub begun_by : ReadLine → Option (List Asked)
begun_by (Ok command.Begin) = Some []
begun_by other = None

abbrev pub ends_gesture : ReadLine → Bool
ends_gesture (Ok command.End) = true
ends_gesture other = false

abbrev pub waits_within : List Asked → ReadLine → Option (List Asked)
waits_within asked line = if ends_gesture line then None else Some (with_waiting asked line)

abbrev pub waits_behind : Option (List Asked) → ReadLine → Option (List Asked)
waits_behind None line = begun_by line
waits_behind (Some asked) line = waits_within asked line
