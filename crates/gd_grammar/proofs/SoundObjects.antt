-- A sound object and sound ties, said field by field, as reading meets the fields.
use Rattle.std.proofs.Common.{◌≡◌, ℕ, ℤ, zero, suc, ◌≤◌, Bool, true, false, List, [], ◌∷◌, length, Option, Some, None}
use Rattle.std.proofs.Common.{refl, arith}
use Rattle.std.specs.Prelude.{◌&&◌, ◌==◌, chars, not, map, nat_le, option_map}
use Rattle.std.specs.List.{list_any}
use Rattle.std.specs.Str.{is_utf8}
use Rattle.std.proofs.lemmas.Bool.{and_parts, and_from, or_parts, or_from, leb-true, le-leb}
use Rattle.gd_base.specs.Kinds.{are_ends_of, is_label_of}
use Rattle.gd_base.specs.Labels.{is_control, is_strange, has_control, has_strange, is_plain, is_text, most_label}
use Rattle.gd_base.specs.Labels.{most_title, IsLabel}
use Rattle.gd_base.specs.Looks.{is_look}
use Rattle.gd_base.specs.Ranges.{place_limit, size_limit, is_within}
use Rattle.gd_base.specs.Ranks.{given_at}
use Rattle.gd_base.specs.Stamps.{Stamp, IsStamp, is_before}
use Rattle.gd_base.specs.Typed.{AreEnds, AreTied, IsLinked, IsObject}
use Rattle.gd_base.specs.declared.object.Ends.{Ends}
use Rattle.gd_base.specs.declared.object.Kind.{Kind}
use Rattle.gd_base.specs.declared.object.Kind.TheVariants.{Shape, Group, Connector}
use Rattle.gd_base.specs.declared.object.Link.{Link}
use Rattle.gd_base.specs.Whole.{Object}
use Rattle.gd_base.specs.declared.rank.Rank.{Rank}
use Rattle.gd_base.specs.declared.ties.Tie.{Tie}
use Rattle.gd_events.specs.Sound.{is_box_in_range, is_link_in_range, is_of_kind, is_object_in_range, are_ties_in_range}
use Rattle.gd_events.specs.Sound.{are_ends_before, is_link_before, is_object_before, is_tie_before, are_ties_before}
use Rattle.gd_events.specs.Sound.{is_above, rise_above}
use Rattle.gd_grammar.specs.Reading.{AllFollow}
use Rattle.gd_grammar.specs.declared.naming.Naming.{Naming}
use Rattle.gd_grammar.proofs.SoundLooks.{IsLooked, look-parts, parts-look}

-- a number from -limit to limit
pub record IsWithin (limit : ℕ) (z : ℤ) : Type 0 where
  pub within : is_within limit z ≡ true

-- an id that an event with that stamp may name
pub record IsId (stamp id : Stamp) : Type 0 where
  pub is_stamp : IsStamp id
  pub before : is_before id stamp ≡ true

-- a text of at most so many bytes without control characters
pub record IsText (most : ℕ) (text : List ℕ) : Type 0 where
  pub fits : length text ≤ most
  pub plain : is_plain text ≡ true

-- ---- labels

-- a control character that is no line feed is a control character
not-strange : (control feed : Bool) → control ≡ false → (control && not feed) ≡ false
not-strange false feed h = refl
not-strange true feed h = absurd cc

none-strange : (text : List ℕ) → list_any is_control text ≡ false → list_any is_strange text ≡ false
none-strange [] h = refl
none-strange (c ∷ cs) h =
    let p = or_parts (is_control c) (list_any is_control cs) h in
    or_from (is_strange c) (list_any is_strange cs) (not-strange (is_control c) (c == 10) p.0) (none-strange cs p.1)

not-true : (b : Bool) → not b ≡ true → b ≡ false
not-true false h = refl
not-true true h = absurd cc

pub plain-text : (text : List ℕ) → is_plain text ≡ true → is_text text ≡ true
plain-text text plain =
    let p = and_parts (is_utf8 text) (not (has_control text)) plain in
    let strange = none-strange (chars text) (not-true (has_control text) p.1) in
    and_from (is_utf8 text) (not (has_strange text)) p.0 (rw strange refl)

-- a text without control characters that isn't too long is a label
pub text-is-label : (most : ℕ) (text : List ℕ) → most ≤ most_label → IsText most text → IsLabel text
text-is-label most text few s = record { fits = omega (arith, s.fits, few); plain = plain-text text s.plain }

-- the label of an object of that kind
abbrev pub IsOwnLabel : Kind → List ℕ → Type 0
IsOwnLabel (Shape kind) label = IsLabel label
IsOwnLabel Group label = IsText most_title label
IsOwnLabel Connector label = IsLabel label

pub own-label : (kind : Kind) (label : List ℕ) → IsLabel label → is_label_of kind label ≡ true → IsOwnLabel kind label
own-label (Shape kind) label typed is = typed
own-label Group label typed is =
    let p = and_parts (nat_le (length label) most_title) (is_plain label) is in
    record { fits = leb-true _ _ p.0; plain = p.1 }
own-label Connector label typed is = typed

-- what a label of its kind says of it
pub record IsLabelBack (kind : Kind) (label : List ℕ) : Type 0 where
  pub typed : IsLabel label
  pub own : is_label_of kind label ≡ true

pub label-back : (kind : Kind) (label : List ℕ) → IsOwnLabel kind label → IsLabelBack kind label
label-back (Shape kind) label s = record { typed = s; own = refl }
label-back Group label s =
    record {
      typed = text-is-label most_title label (omega arith) s;
      own
          = and_from (nat_le (length label) most_title) (is_plain label) (le-leb _ _ s.fits) s.plain;
    }
label-back Connector label s = record { typed = s; own = refl }

-- ---- what an object names

-- the id of a group to which the named object of that id may be linked, or any where no operation names it
abbrev pub IsParent : Option Naming → Stamp → Type 0
IsParent None parent = IsStamp parent
IsParent (Some naming) parent = IsId naming.stamp parent × (is_before naming.id parent ≡ true)

-- the stamp of a rank that an event with that stamp may give, or any where no event gives it
abbrev pub IsGiven : Option Stamp → Stamp → Type 0
IsGiven None given = IsStamp given
IsGiven (Some stamp) given = IsId stamp given

abbrev pub IsRank : Option Stamp → Rank → Type 0
IsRank stamp rank = IsGiven stamp (given_at rank)

abbrev pub AreEndsOf : Option Stamp → Option Ends → Type 0
AreEndsOf stamp None = Unit {0}
AreEndsOf stamp (Some ends) = IsGiven stamp ends.from × IsGiven stamp ends.to

-- the ends that an object of that kind may have
pub record AreOwnEnds (kind : Kind) (stamp : Option Stamp) (ends : Option Ends) : Type 0 where
  pub given : AreEndsOf stamp ends
  pub joined : are_ends_of kind ends ≡ true

abbrev pub IsLinkOf : Option Naming → Option Link → Type 0
IsLinkOf naming None = Unit {0}
IsLinkOf naming (Some link) = IsParent naming link.parent × IsWithin place_limit link.dx × IsWithin place_limit link.dy

-- each field of the object is in its range
pub record IsDrawnBy (naming : Option Naming) (o : Object) : Type 0 where
  pub left : IsWithin place_limit o.x
  pub top : IsWithin place_limit o.y
  pub width : IsWithin size_limit o.w
  pub height : IsWithin size_limit o.h
  pub look : IsLooked o.look
  pub label : IsOwnLabel o.kind o.label
  pub ends : AreOwnEnds o.kind (option_map (λ n. n.stamp) naming) o.ends
  pub link : IsLinkOf naming o.link
  pub rank : IsRank (option_map (λ n. n.stamp) naming) o.rank

-- a tie that may follow the one with the last id
pub record IsTie (stamp : Stamp) (last : Option Stamp) (tie : Tie) : Type 0 where
  pub is_id : IsId stamp tie.id
  pub above : is_above last tie.id ≡ true
  pub link : IsLinkOf (Some (record { stamp = stamp; id = tie.id })) tie.link

-- ties of rising ids behind a last one, if there is one
abbrev pub AreTies : Stamp → Option Stamp → List Tie → Type 0
AreTies stamp last ties = AllFollow (IsTie stamp) (λ t. Some t.id) last ties

-- ---- links and objects

link-of : (stamp id : Stamp) (link : Option Link) → IsLinked link → is_link_in_range link ≡ true
    → is_link_before stamp id link ≡ true → IsLinkOf (Some (record { stamp = stamp; id = id })) link
link-of stamp id None typed range before = tt
link-of stamp id (Some link) typed range before =
    let shift = and_parts (is_within place_limit link.dx) (is_within place_limit link.dy) range in
    let above = and_parts (is_before id link.parent) (is_before link.parent stamp) before in
    ((record { is_stamp = typed; before = above.1 }, above.0), record { within = shift.0 }, record { within = shift.1 })

-- what the fields of a link say of it
record IsLinkBack (stamp id : Stamp) (link : Option Link) : Type 0 where
  typed : IsLinked link
  range : is_link_in_range link ≡ true
  before : is_link_before stamp id link ≡ true

link-back : (stamp id : Stamp) (link : Option Link) → IsLinkOf (Some (record { stamp = stamp; id = id })) link
    → IsLinkBack stamp id link
link-back stamp id None s = record { typed = tt; range = refl; before = refl }
link-back stamp id (Some link) s
    = record {
      typed = s.0.0.is_stamp;
      range = and_from _ _ s.1.within s.2.within;
      before
          = and_from _ _ s.0.1 s.0.0.before;
    }

ends-of : (stamp : Stamp) (ends : Option Ends) → AreEnds ends → are_ends_before stamp ends ≡ true
    → AreEndsOf (Some stamp) ends
ends-of stamp None typed before = tt
ends-of stamp (Some ends) typed before =
    let p = and_parts (is_before ends.from stamp) (is_before ends.to stamp) before in
    (record { is_stamp = typed.0; before = p.0 }, record { is_stamp = typed.1; before = p.1 })

-- what the ends of a connector say of them
record AreEndsBack (stamp : Stamp) (ends : Option Ends) : Type 0 where
  typed : AreEnds ends
  before : are_ends_before stamp ends ≡ true

ends-back : (stamp : Stamp) (ends : Option Ends) → AreEndsOf (Some stamp) ends → AreEndsBack stamp ends
ends-back stamp None s = record { typed = tt; before = refl }
ends-back stamp (Some ends) s
    = record { typed = (s.0.is_stamp, s.1.is_stamp); before = and_from _ _ s.0.before s.1.before }

pub object-drawn : (stamp id : Stamp) (o : Object) → IsObject o → is_object_in_range o ≡ true
    → is_object_before stamp id o ≡ true → IsDrawnBy (Some (record { stamp = stamp; id = id })) o
object-drawn stamp id o typed range before =
    let ranges = and_parts (is_box_in_range o.x o.y o.w o.h)
    (is_look o.look && (is_of_kind o && is_link_in_range o.link)) range in
    let place = and_parts (is_within place_limit o.x)
    (is_within place_limit o.y && (is_within size_limit o.w && is_within size_limit o.h)) ranges.0 in
    let rest = and_parts (is_within place_limit o.y) (is_within size_limit o.w && is_within size_limit o.h) place.1 in
    let size = and_parts (is_within size_limit o.w) (is_within size_limit o.h) rest.1 in
    let look = and_parts (is_look o.look) (is_of_kind o && is_link_in_range o.link) ranges.1 in
    let behind = and_parts (is_of_kind o) (is_link_in_range o.link) look.1 in
    let own = and_parts (is_label_of o.kind o.label) (are_ends_of o.kind o.ends) behind.0 in
    let names = and_parts (is_before id stamp)
    (is_before (given_at o.rank) stamp && (are_ends_before stamp o.ends && is_link_before stamp id o.link)) before
    in
    let tops = and_parts (is_before (given_at o.rank) stamp)
    (are_ends_before stamp o.ends && is_link_before stamp id o.link) names.1 in
    let ends = and_parts (are_ends_before stamp o.ends) (is_link_before stamp id o.link) tops.1 in
    record {
      left = record { within = place.0 };
      top = record { within = rest.0 };
      width = record { within = size.0 };
      height = record { within = size.1 };
      look = look-parts o.look look.0;
      label = own-label o.kind o.label typed.label own.0;
      ends = record { given = ends-of stamp o.ends typed.ends ends.0; joined = own.1 };
      link = link-of stamp id o.link typed.link behind.1 ends.1;
      rank = record { is_stamp = typed.rank; before = tops.0 };
    }

-- what the fields of an object say of it
pub record IsObjectBack (stamp id : Stamp) (o : Object) : Type 0 where
  pub typed : IsObject o
  pub range : is_object_in_range o ≡ true
  pub before : is_object_before stamp id o ≡ true

pub object-back : (stamp id : Stamp) (o : Object) → is_before id stamp ≡ true
    → IsDrawnBy (Some (record { stamp = stamp; id = id })) o → IsObjectBack stamp id o
object-back stamp id o named s =
    let link = link-back stamp id o.link s.link in
    let ends = ends-back stamp o.ends s.ends.given in
    let label = label-back o.kind o.label s.label in
    record {
      typed = record { label = label.typed; ends = ends.typed; link = link.typed; rank = s.rank.is_stamp };
      range = and_from _ _ (and_from _ _ s.left.within
          (and_from _ _ s.top.within (and_from _ _ s.width.within s.height.within)))
          (and_from _ _ (parts-look o.look s.look) (and_from _ _ (and_from _ _ label.own s.ends.joined) link.range));
      before = and_from _ _ named (and_from _ _ s.rank.before (and_from _ _ ends.before link.before));
    }

-- ---- ties

-- ties that break no rule
pub record KeepTies (stamp : Stamp) (last : Option Stamp) (ties : List Tie) : Type 0 where
  pub tied : AreTied ties
  pub ranges : are_ties_in_range ties ≡ true
  pub before : are_ties_before stamp ties ≡ true
  pub rising : rise_above last (map (λ (t : Tie). t.id) ties) ≡ true

pub ties-are : (stamp : Stamp) (last : Option Stamp) (ties : List Tie) → KeepTies stamp last ties
    → AreTies stamp last ties
unfolding AllFollow rise_above
ties-are stamp last [] k = tt
ties-are stamp last (t ∷ ts) k =
    let typed = k.tied zero t (omega arith) in
    let ranges = and_parts (is_link_in_range t.link) (are_ties_in_range ts) k.ranges in
    let before = and_parts (is_tie_before stamp t) (are_ties_before stamp ts) k.before in
    let named = and_parts (is_before t.id stamp) (is_link_before stamp t.id t.link) before.0 in
    let rising = and_parts (is_above last t.id) (rise_above (Some t.id) (map (λ (u : Tie). u.id) ts)) k.rising in (
      record {
        is_id = record { is_stamp = typed.0; before = named.0 };
        above = rising.0;
        link
            = link-of stamp t.id t.link typed.1 ranges.0 named.1;
      },
      ties-are stamp (Some t.id) ts
          (record {
            tied = λ i d lt. k.tied (suc i) d (omega arith);
            ranges = ranges.1;
            before = before.1;
            rising
                = rising.1;
          }),
    )

-- a tie of a stamp, in front of others
tied-more : (t : Tie) (ts : List Tie) → IsStamp t.id × IsLinked t.link → AreTied ts → AreTied (t ∷ ts)
tied-more t ts first more zero d lt = first
tied-more t ts first more (suc k) d lt = more k d (omega arith)

pub ties-keep : (stamp : Stamp) (last : Option Stamp) (ties : List Tie) → AreTies stamp last ties
    → KeepTies stamp last ties
unfolding AllFollow rise_above
ties-keep stamp last [] s
    = record { tied = λ k d lt. absurd (omega arith); ranges = refl; before = refl; rising = refl }
ties-keep stamp last (t ∷ ts) s =
    let k = ties-keep stamp (Some t.id) ts s.1 in
    let link = link-back stamp t.id t.link s.0.link in
    record {
      tied = tied-more t ts (s.0.is_id.is_stamp, link.typed) k.tied;
      ranges = and_from _ _ link.range k.ranges;
      before = and_from _ _ (and_from _ _ s.0.is_id.before link.before) k.before;
      rising = and_from _ _ s.0.above k.rising;
    }
