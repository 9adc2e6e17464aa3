-- How an object is read: in a snapshot, and where an operation restores it. A kind, the place, the size and the look;
-- the label behind its length, which of a group is a title; the ends, which a connector has, or a byte 0 for none; a
-- link, or a byte 0 for none; whether it is dissolved; and the rank. A field out of its range is Field at its first
-- byte. Where an operation names the object, an end or a stamp of its rank that isn't before the event's is FutureId at
-- its first byte, and so is a group that isn't before the event's stamp and above the object's id.
use Rattle.std.specs.Prelude.{ℕ, Bool, true, false, Option, Some, None, List, [], ◌∷◌, option_map}
use Rattle.gd_base.specs.Labels.{most_title}
use Rattle.gd_base.specs.Ranges.{place_limit, size_limit}
use Rattle.gd_base.specs.Stamps.{Stamp}
use Rattle.gd_base.specs.declared.object.Kind.{Kind}
use Rattle.gd_base.specs.declared.object.Kind.TheVariants.{Shape, Group, Connector}
use Rattle.gd_base.specs.declared.object.Ends.{Ends}
use Rattle.gd_base.specs.declared.object.Link.{Link}
use Rattle.gd_base.specs.Whole.{Object}
use Rattle.gd_base.specs.declared.rank.Rank.{Rank}
use Rattle.gd_base.specs.declared.rank.Rank.TheVariants.{Low, High}
use Rattle.gd_base.specs.declared.shape.Shape.TheVariants.{Rect, Ellipse, Line, Text}
use Rattle.gd_grammar.specs.EventBytes.{parent_id_at}
use Rattle.gd_grammar.specs.Fields.{id_at, label_within, long_label_at, stamp_at, signed_at}
use Rattle.gd_grammar.specs.LookBytes.{look_at}
use Rattle.gd_grammar.specs.Reading.{Reader, pure}
use Rattle.gd_grammar.specs.Readers.{◌>>=◌, into, by_tag}
use Rattle.gd_grammar.specs.declared.naming.Naming.{Naming}

-- the kinds of shapes as in events, 5 for a group, and 6 for a connector
abbrev pub kind_rows : List (ℕ × Reader Kind)
kind_rows =
    (1, pure (Shape Rect)) ∷ (2, pure (Shape Ellipse)) ∷ (3, pure (Shape Line)) ∷ (4, pure (Shape Text))
    ∷ (5, pure Group)
    ∷ (6, pure Connector) ∷ []

unfoldable pub kind_at : Reader Kind
kind_at = by_tag kind_rows

abbrev pub flag_rows : List (ℕ × Reader Bool)
flag_rows = (0, pure false) ∷ (1, pure true) ∷ []

unfoldable pub flag_at : Reader Bool
flag_at = by_tag flag_rows

-- the group, which is any where no operation names the object
unfoldable pub parent_at : Option Naming → Reader Stamp
parent_at None = stamp_at
parent_at (Some naming) = parent_id_at naming.stamp naming.id

-- the group, and the shift
unfoldable pub some_link_at : Option Naming → Reader (Option Link)
some_link_at naming = do
  parent ← parent_at naming
  dx ← signed_at place_limit
  dy ← signed_at place_limit
  pure (Some (record { parent = parent; dx = dx; dy = dy }))

-- a flag that says whether there is a link, and the link
abbrev pub link_rows : Option Naming → List (ℕ × Reader (Option Link))
link_rows naming = (0, pure None) ∷ (1, some_link_at naming) ∷ []

unfoldable pub link_at : Option Naming → Reader (Option Link)
link_at naming = by_tag (link_rows naming)

-- the stamp of a rank or of an end, which is any where no event gives it
unfoldable pub given_at : Option Stamp → Reader Stamp
given_at None = stamp_at
given_at (Some stamp) = id_at stamp

-- a flag that says whether there are ends, and both
unfoldable pub some_ends_at : Option Stamp → Reader (Option Ends)
some_ends_at stamp = do
  from ← given_at stamp
  to ← given_at stamp
  pure (Some (record { from = from; to = to }))

abbrev pub ends_rows : Option Stamp → List (ℕ × Reader (Option Ends))
ends_rows stamp = (0, pure None) ∷ (1, some_ends_at stamp) ∷ []

unfoldable pub ends_or_none_at : Option Stamp → Reader (Option Ends)
ends_or_none_at stamp = by_tag (ends_rows stamp)

-- the same where there are some
abbrev pub joined_rows : Option Stamp → List (ℕ × Reader (Option Ends))
joined_rows stamp = (1, some_ends_at stamp) ∷ []

unfoldable pub joined_at : Option Stamp → Reader (Option Ends)
joined_at stamp = by_tag (joined_rows stamp)

-- the ends of an object of that kind: a connector has some
unfoldable pub own_ends_at : Kind → Option Stamp → Reader (Option Ends)
own_ends_at (Shape kind) stamp = ends_or_none_at stamp
own_ends_at Group stamp = ends_or_none_at stamp
own_ends_at Connector stamp = joined_at stamp

-- a flag that says whether it is high, and the stamp
abbrev pub rank_rows : Option Stamp → List (ℕ × Reader Rank)
rank_rows stamp = (0, into Low (given_at stamp)) ∷ (1, into High (given_at stamp)) ∷ []

unfoldable pub rank_at : Option Stamp → Reader Rank
rank_at stamp = by_tag (rank_rows stamp)

-- the label of an object of that kind: that of a group is a title
unfoldable pub own_label_at : Kind → Reader (List ℕ)
own_label_at (Shape kind) = long_label_at
own_label_at Group = label_within most_title
own_label_at Connector = long_label_at

-- what stands behind the kind of an object, and the operation that names it, if one does
unfoldable pub of_kind_at : Kind → Option Naming → Reader Object
of_kind_at kind naming = do
  x ← signed_at place_limit
  y ← signed_at place_limit
  w ← signed_at size_limit
  h ← signed_at size_limit
  look ← look_at
  label ← own_label_at kind
  ends ← own_ends_at kind (option_map (λ n. n.stamp) naming)
  link ← link_at naming
  dissolved ← flag_at
  rank ← rank_at (option_map (λ n. n.stamp) naming)
  pure (record {
    kind = kind;
    x = x;
    y = y;
    w = w;
    h = h;
    look = look;
    label = label;
    ends = ends;
    link = link;
    dissolved = dissolved;
    rank = rank;
  })

-- an object, and the operation that names it, if one does
unfoldable pub object_at : Option Naming → Reader Object
object_at naming = do
  kind ← kind_at
  of_kind_at kind naming
