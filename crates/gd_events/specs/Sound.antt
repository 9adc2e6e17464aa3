-- Which events are sound: the number is at least 1, the fields are in their ranges, a group has at least 2 members and
-- what is disbanded at least 1 tie, the label of a group is a title, a connector has ends, only a group is restored
-- with ties, every id that the operation names and every stamp of a rank is before the event's own stamp, a link leads
-- to a greater id than that of its object, and the ids of members and of ties rise.
use Rattle.std.specs.Prelude.{◌≡◌, ℤ, Bool, true, ◌&&◌, not, ◌==◌, nat_le, if◌then◌else◌, Option, Some, None, ◌≤◌, List}
use Rattle.std.specs.Prelude.{[], ◌∷◌, length, map}
use Rattle.std.specs.List.{list_all}
use Rattle.gd_base.specs.Contents.{is_content, IsTypedBy}
use Rattle.gd_base.specs.Kinds.{are_ends_of, is_label_of, most_ties}
use Rattle.gd_base.specs.Labels.{IsLabel}
use Rattle.gd_base.specs.Members.{AreStamped}
use Rattle.gd_base.specs.Looks.{is_look}
use Rattle.gd_base.specs.Ranges.{place_limit, size_limit, is_within}
use Rattle.gd_base.specs.Ranks.{given_at}
use Rattle.gd_base.specs.Stamps.{Stamp, IsStamp, is_before}
use Rattle.gd_base.specs.Typed.{AreEnds, AreTied, IsObject}
use Rattle.gd_base.specs.declared.content.Content.TheVariants.{ToEnds, ToRank}
use Rattle.gd_base.specs.declared.content.Height.{Height}
use Rattle.gd_base.specs.declared.content.Height.TheVariants.{To, At}
use Rattle.gd_base.specs.declared.member.Member.{Member}
use Rattle.gd_base.specs.declared.object.Ends.{Ends}
use Rattle.gd_base.specs.declared.object.Link.{Link}
use Rattle.gd_base.specs.Whole.{Object}
use Rattle.gd_base.specs.declared.op.Op.TheVariants.{Create, Delete, Set, Group, Connect, Restore, Disband}
use Rattle.gd_base.specs.declared.ranges.TheConstants.{MOST_MEMBERS}
use Rattle.gd_base.specs.declared.ties.Tie.{Tie}
use Rattle.gd_events.specs.Ops.{Op, Done}
use Rattle.gd_events.specs.declared.event.EventFault.{EventFault}
use Rattle.gd_events.specs.declared.event.EventFault.TheVariants.{Seq, Range, MemberCount, FutureId, MemberOrder}
use Rattle.gd_events.specs.Events.{Event, IsSoundWith}

-- ---- ranges

-- a box of that place and size
abbrev pub is_box_in_range : ℤ → ℤ → ℤ → ℤ → Bool
is_box_in_range x y w h = is_within place_limit x
    && (is_within place_limit y && (is_within size_limit w && is_within size_limit h))

abbrev pub is_shift_in_range : Member → Bool
is_shift_in_range m = is_within place_limit m.dx && is_within place_limit m.dy

abbrev pub is_link_in_range : Option Link → Bool
is_link_in_range None = true
is_link_in_range (Some link) = is_within place_limit link.dx && is_within place_limit link.dy

-- what the kind of the object asks for
abbrev pub is_of_kind : Object → Bool
is_of_kind o = is_label_of o.kind o.label && are_ends_of o.kind o.ends

abbrev pub is_object_in_range : Object → Bool
is_object_in_range o = is_box_in_range o.x o.y o.w o.h && (is_look o.look && (is_of_kind o && is_link_in_range o.link))

abbrev pub are_ties_in_range : List Tie → Bool
are_ties_in_range ties = list_all (λ t. is_link_in_range t.link) ties

-- the numbers of the operation are in their ranges
abbrev pub is_in_range : Op → Bool
is_in_range (Create kind x y w h label) = is_box_in_range x y w h
is_in_range (Delete id) = true
is_in_range (Set id content) = is_content content
is_in_range (Group members) = list_all is_shift_in_range members
is_in_range (Connect ends label) = true
is_in_range (Restore id object ties) = is_object_in_range object && are_ties_in_range ties
is_in_range (Disband id ties) = are_ties_in_range ties

-- a group has at least 2 members, and what is disbanded at least 1 tie: without any it is deleted; and only a group
-- ties others
abbrev pub has_members : Op → Bool
has_members (Group members) = nat_le 2 (length members)
has_members (Disband id ties) = nat_le 1 (length ties)
has_members (Restore id object ties) = nat_le (length ties) (most_ties object.kind)
has_members other = true

-- ---- ids

-- the stamp of a rank that an object gets is before that stamp
abbrev pub is_height_before : Stamp → Height → Bool
is_height_before stamp (To side) = true
is_height_before stamp (At rank) = is_before (given_at rank) stamp

-- the objects between which a connector is shown
abbrev pub is_between : Stamp → Ends → Bool
is_between stamp ends = is_before ends.from stamp && is_before ends.to stamp

abbrev pub are_ends_before : Stamp → Option Ends → Bool
are_ends_before stamp None = true
are_ends_before stamp (Some ends) = is_between stamp ends

abbrev pub is_content_before : Stamp → Done → Bool
is_content_before stamp (ToRank height) = is_height_before stamp height
is_content_before stamp (ToEnds ends) = are_ends_before stamp ends
is_content_before stamp content = true

-- the object of that id is linked to a greater one
abbrev pub is_link_before : Stamp → Stamp → Option Link → Bool
is_link_before stamp id None = true
is_link_before stamp id (Some link) = is_before id link.parent && is_before link.parent stamp

abbrev pub is_member_before : Stamp → Member → Bool
is_member_before stamp m = is_before m.id stamp

abbrev pub is_tie_before : Stamp → Tie → Bool
is_tie_before stamp t = is_before t.id stamp && is_link_before stamp t.id t.link

abbrev pub are_ties_before : Stamp → List Tie → Bool
are_ties_before stamp ties = list_all (is_tie_before stamp) ties

abbrev pub is_object_before : Stamp → Stamp → Object → Bool
is_object_before stamp id o =
    is_before id stamp &&
    (is_before (given_at o.rank) stamp && (are_ends_before stamp o.ends && is_link_before stamp id o.link))

-- the ids that the operation names, and the stamps of its ranks, are before the stamp
abbrev pub names_before : Stamp → Op → Bool
names_before stamp (Create kind x y w h label) = true
names_before stamp (Delete id) = is_before id stamp
names_before stamp (Set id content) = is_before id stamp && is_content_before stamp content
names_before stamp (Group members) = list_all (is_member_before stamp) members
names_before stamp (Connect ends label) = is_between stamp ends
names_before stamp (Restore id object ties) = is_object_before stamp id object && are_ties_before stamp ties
names_before stamp (Disband id ties) = is_before id stamp && are_ties_before stamp ties

-- the id is above the last one, if there is one
abbrev pub is_above : Option Stamp → Stamp → Bool
is_above None id = true
is_above (Some last) id = is_before last id

-- the ids rise strictly, and are above the last one, if there is one
unfoldable pub rise_above : Option Stamp → List Stamp → Bool
rise_above last [] = true
rise_above last (id ∷ ids) = is_above last id && rise_above (Some id) ids

-- the ids of members and of ties rise strictly
abbrev pub has_rising_ids : Op → Bool
has_rising_ids (Group members) = rise_above None (map (λ m. m.id) members)
has_rising_ids (Restore id object ties) = rise_above None (map (λ t. t.id) ties)
has_rising_ids (Disband id ties) = rise_above None (map (λ t. t.id) ties)
has_rising_ids other = true

-- ---- faults

-- the first rule that the operation of an event with that stamp breaks, if it breaks one
abbrev pub op_fault : Stamp → Op → Option EventFault
op_fault stamp op =
    if not (is_in_range op) then Some Range
    else if not (has_members op) then Some MemberCount
    else if not (names_before stamp op) then Some FutureId
    else if not (has_rising_ids op) then Some MemberOrder
    else None

-- the first rule that the event breaks, if it breaks one
abbrev pub event_fault : Event → Option EventFault
event_fault e = if e.number == 0 then Some Seq else op_fault e.stamp e.op

-- ---- types

abbrev pub IsHeight : Height → Type 0
IsHeight (To side) = Unit {0}
IsHeight (At rank) = IsStamp (given_at rank)

abbrev pub AreMembers : List Member → Type 0
AreMembers members = (length members ≤ MOST_MEMBERS) × AreStamped members

abbrev pub AreTies : List Tie → Type 0
AreTies ties = (length ties ≤ MOST_MEMBERS) × AreTied ties

-- the ids, the labels and the number of members and ties of the operation are what their types say
abbrev pub IsWellTyped : Op → Type 0
IsWellTyped (Create kind x y w h label) = IsLabel label
IsWellTyped (Delete id) = IsStamp id
IsWellTyped (Set id content) = IsStamp id × IsTypedBy IsHeight content
IsWellTyped (Group members) = AreMembers members
IsWellTyped (Connect ends label) = AreEnds (Some ends) × IsLabel label
IsWellTyped (Restore id object ties) = IsStamp id × IsObject object × AreTies ties
IsWellTyped (Disband id ties) = IsStamp id × AreTies ties

-- an operation that an event with that stamp may have
pub record IsOp (stamp : Stamp) (op : Op) : Type 0 where
  pub typed : IsWellTyped op
  pub rules : op_fault stamp op ≡ None

abbrev pub IsSound : Event → Type 0
IsSound e = IsSoundWith IsOp e

-- the same of one that is before that stamp
abbrev pub IsSoundBefore : Stamp → Event → Type 0
IsSoundBefore stamp e = IsSound e × (is_before e.stamp stamp ≡ true)

-- an object under that id as sound events before that stamp may leave it
pub record IsObjectBefore (stamp id : Stamp) (o : Object) : Type 0 where
  pub id_is : IsStamp id
  pub typed : IsObject o
  pub range : is_object_in_range o ≡ true
  pub before : is_object_before stamp id o ≡ true
