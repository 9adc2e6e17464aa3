-- The ranges of what a command is asked with.
use Rattle.std.specs.Prelude.{ℕ, ◌≤◌, ◌<◌, ◌^◌, List, length}
use Rattle.gd_base.specs.Sites.{IsSite}
use Rattle.gd_base.specs.declared.ranges.TheConstants.{SITES}
use Rattle.gd_options.specs.declared.churn.TheConstants.{CHURN_STEPS}
use Rattle.gd_asked.specs.declared.command.Command.{Command}
use Rattle.gd_asked.specs.declared.command.Command.TheVariants.{Replay, Upgrade, Snapshot, View, Board, Node, Rejoin}
use Rattle.gd_asked.specs.declared.command.Command.TheVariants.{Rehearse, Churn}

-- the own site is one of 1 to 16, each of which has an address
abbrev pub IsMember : ℕ → ℕ → List (List ℕ) → Type 0
IsMember session site addresses =
    (session < 2 ^ 32) × (1 ≤ site) × (site ≤ length addresses) × (length addresses ≤ SITES)

abbrev pub IsInRange : Command → Type 0
IsInRange (Replay format counts upto) = Unit {0}
IsInRange Upgrade = Unit {0}
IsInRange Snapshot = Unit {0}
IsInRange View = Unit {0}
IsInRange (Board counts) = Unit {0}
IsInRange (Node session site journal addresses) = IsMember session site addresses
IsInRange (Rejoin session site journal addresses) = IsMember session site addresses
IsInRange (Rehearse sites) = IsSite sites
IsInRange (Churn seed steps) = (seed < 2 ^ 64) × (steps ≤ CHURN_STEPS)
