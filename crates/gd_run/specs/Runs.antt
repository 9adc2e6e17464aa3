-- What each command does to the outside over the contents of a journal, an input and the entries of a link, and how
-- that ends.
--
-- A node and a rehearsal read their input line by line, a view its items one by one, and a churn reads nothing. Only a
-- node has a journal and a link, and only one that goes on from its journal looks at what is in it. The others read the
-- whole input before they do anything.
use Rattle.std.specs.Prelude.{ℕ, List, [], ◌∷◌, length, Option, Some, None}
use Rattle.gd_boarding.specs.Boarding.{board_end, boarded}
use Rattle.gd_effects.specs.Effects.{Effect}
use Rattle.gd_lines.specs.declared.reply.Reply.TheVariants as reply
use Rattle.gd_asked.specs.declared.command.Command.{Command}
use Rattle.gd_asked.specs.declared.command.Command.TheVariants.{Replay, Upgrade, Snapshot, View, Board, Node, Rejoin}
use Rattle.gd_asked.specs.declared.command.Command.TheVariants.{Rehearse, Churn}
use Rattle.gd_outside.specs.Seen.{Entry}
use Rattle.gd_outside.specs.declared.status.Status.{Status}
use Rattle.gd_outside.specs.declared.status.Status.TheVariants as status
use Rattle.gd_reference.specs.InputLines.{whole_lines}
use Rattle.gd_reference.specs.NodeRun.{end_after, node_effects, node_lines}
use Rattle.gd_reference.specs.Rejoin.{Found, found, node_header, rejoined, rejoined_end}
use Rattle.gd_reference.specs.Said.{says}
use Rattle.gd_reference.specs.SlowRun.{ended_by, upgraded_log}
use Rattle.gd_reference.specs.UptoFault.{replayed_by}
use Rattle.gd_viewing.specs.Snapshotting.{snapshotted}
use Rattle.gd_viewing.specs.Viewing.{view_cut, view_effects, view_end}
use Rattle.gd_worlds.specs.Churn.{churn_effects}
use Rattle.gd_worlds.specs.Rehearsal.{rehearsal_effects, rehearsal_end, rehearsal_lines}

-- what a node finds in its journal, whose number, session and addresses these are
abbrev pub found_by : ℕ → ℕ → List (List ℕ) → List ℕ → Found
found_by session site addresses contents = found (node_header site (length addresses) session) contents

-- what is done for a command; where words ask for none, it is said how the program is called
abbrev pub effects_of : Option Command → List ℕ → List ℕ → List Entry → List Effect
effects_of None contents input entries = says reply.Usage ∷ []
effects_of (Some (Replay format counts upto)) contents input entries = replayed_by upto format counts input
effects_of (Some Upgrade) contents input entries = upgraded_log input
effects_of (Some Snapshot) contents input entries = snapshotted input
effects_of (Some View) contents input entries = view_effects input
effects_of (Some (Board counts)) contents input entries = boarded counts input
effects_of (Some (Node session site journal addresses)) contents input entries =
    node_effects site (length addresses) session entries (node_lines input)
effects_of (Some (Rejoin session site journal addresses)) contents input entries =
    let there = found_by session site addresses contents in
    rejoined site (length addresses) session there entries (node_lines input)
effects_of (Some (Rehearse sites)) contents input entries = rehearsal_effects sites (rehearsal_lines input)
effects_of (Some (Churn seed steps)) contents input entries = churn_effects seed steps

-- and how that ends
abbrev pub end_of : Option Command → List ℕ → List ℕ → Status
end_of None contents input = status.Usage
end_of (Some (Replay format counts upto)) contents input = ended_by input
end_of (Some Upgrade) contents input = ended_by input
end_of (Some Snapshot) contents input = ended_by input
end_of (Some View) contents input = view_end input
end_of (Some (Board counts)) contents input = board_end input
end_of (Some (Node session site journal addresses)) contents input = end_after (node_lines input)
end_of (Some (Rejoin session site journal addresses)) contents input =
    rejoined_end (found_by session site addresses contents) (node_lines input)
end_of (Some (Rehearse sites)) contents input = rehearsal_end (rehearsal_lines input)
end_of (Some (Churn seed steps)) contents input = status.Done

-- What is done for a part of the input, where no more of it can be read: the whole lines and items in it are answered,
-- and what a command does that reads everything first it does only then when it has.
abbrev pub cut_of : Option Command → List ℕ → List Entry → List ℕ → List Effect
cut_of (Some (Node session site journal addresses)) contents entries input =
    effects_of (Some (Node session site journal addresses)) contents (whole_lines input) entries
cut_of (Some (Rejoin session site journal addresses)) contents entries input =
    effects_of (Some (Rejoin session site journal addresses)) contents (whole_lines input) entries
cut_of (Some (Rehearse sites)) contents entries input = rehearsal_effects sites (rehearsal_lines (whole_lines input))
cut_of (Some View) contents entries input = view_cut input
cut_of other contents entries input = []
