-- What an object of a kind may have: the label of a group is a title, a connector has ends, and only a group ties
-- others.
use Rattle.std.specs.Prelude.{ℕ, List, Bool, true, Option, is_some}
use Rattle.gd_base.specs.Labels.{is_title}
use Rattle.gd_base.specs.declared.object.Ends.{Ends}
use Rattle.gd_base.specs.declared.object.Kind.{Kind}
use Rattle.gd_base.specs.declared.object.Kind.TheVariants.{Shape, Group, Connector}
use Rattle.gd_base.specs.declared.ranges.TheConstants.{MOST_MEMBERS}

-- how many others are tied at most where it is restored
abbrev pub most_ties : Kind → ℕ
most_ties (Shape kind) = 0
most_ties Group = MOST_MEMBERS
most_ties Connector = 0

abbrev pub is_label_of : Kind → List ℕ → Bool
is_label_of (Shape kind) label = true
is_label_of Group label = is_title label
is_label_of Connector label = true

-- what has no place is shown between its ends, so it has some
abbrev pub are_ends_of : Kind → Option Ends → Bool
are_ends_of (Shape kind) ends = true
are_ends_of Group ends = true
are_ends_of Connector ends = is_some ends
