-- What sound events before a stamp leave: the numbers of an object are in their ranges, and its id, rank, ends and link
-- are before that stamp. It is so of the form of each such event, and of the board, field by field.
use Rattle.std.proofs.Common.{◌≡◌, ◌≤◌, Bool, true, false, cond, not, ◌&&◌, ◌||◌, List, [], ◌∷◌, length, map, Option}
use Rattle.std.proofs.Common.{None, Some, refl, sym, ap, ◌∙◌, subst, arith, le-leb}
use Rattle.std.specs.Prelude.{ℕ, ℤ, is_some, option_map, unwrap_or, IfSome, if◌then◌else◌, nat_le}
use Rattle.std.specs.List.{AllByRecursion as Every, filter, list_all}
use Rattle.std.specs.FinMap as map_of
use Rattle.std.specs.Str.{is_utf8, chars}
use Rattle.std.proofs.lemmas.Bool.{and_parts, and_from, cond_both}
use Rattle.std.proofs.lemmas.List.{length-map}
use Rattle.std.proofs.lemmas.List.Elements.{recursion_from_All}
use Rattle.gd_base.specs.Contents.{content_map, is_content, IsTypedBy}
use Rattle.gd_base.specs.Kinds.{are_ends_of, is_label_of, most_ties}
use Rattle.gd_base.specs.Labels.{IsLabel}
use Rattle.gd_base.specs.Looks.{are_looks, are_numbers, given, has_look, instead, is_look, taken}
use Rattle.gd_base.specs.Ranges.{place_limit, size_limit, is_within, is_colour, is_fill, is_letters, is_opacity}
use Rattle.gd_base.specs.Ranges.{is_round, is_width}
use Rattle.gd_base.specs.Ranks.{given_at}
use Rattle.gd_base.specs.Stamps.{Stamp, IsStamp, stamp_cmp, is_same, is_before}
use Rattle.gd_base.specs.Typed.{AreEnds, IsLinked, IsObject}
use Rattle.gd_base.specs.declared.content.Content.TheVariants as content
use Rattle.gd_base.specs.declared.content.Height.TheVariants.{To, At}
use Rattle.gd_base.specs.declared.content.Side.TheVariants.{Bottom, Top}
use Rattle.gd_base.specs.declared.member.Member.{Member}
use Rattle.gd_base.specs.declared.look.Look.{Look}
use Rattle.gd_base.specs.declared.look.Looks.{Looks}
use Rattle.gd_base.specs.declared.object.Ends.{Ends}
use Rattle.gd_base.specs.declared.object.Kind.{Kind}
use Rattle.gd_base.specs.declared.object.Kind.TheVariants as kinds
use Rattle.gd_base.specs.declared.object.Link.{Link}
use Rattle.gd_base.specs.Whole.{Object}
use Rattle.gd_base.specs.declared.op.Op.TheVariants.{Create, Connect, Delete, Set, Group, Restore, Disband}
use Rattle.gd_base.specs.declared.shape.Shape.{Shape}
use Rattle.gd_base.specs.declared.ranges.TheConstants.{MOST_MEMBERS}
use Rattle.gd_base.specs.declared.ties.Tie.{Tie}
use Rattle.gd_base.proofs.Insertions.{Every-all_inserted}
use Rattle.gd_base.proofs.StampLemmas.{is_same-true, is_before-trans}
use Rattle.gd_events.specs.Events.{Event}
use Rattle.gd_events.specs.Ops.{Op, Done}
use Rattle.gd_events.specs.Ordered.{ordered}
use Rattle.gd_events.specs.Sound.{is_box_in_range, is_shift_in_range, is_link_in_range, is_of_kind, is_object_in_range}
use Rattle.gd_events.specs.Sound.{are_ties_in_range, is_in_range, has_members, is_between, are_ends_before}
use Rattle.gd_events.specs.Sound.{is_content_before, is_link_before, is_member_before, is_tie_before, are_ties_before}
use Rattle.gd_events.specs.Sound.{is_object_before, names_before, rise_above, has_rising_ids, IsHeight, AreTies}
use Rattle.gd_events.specs.Sound.{IsWellTyped, IsOp, IsSoundBefore, IsObjectBefore}
use Rattle.gd_events.specs.declared.event.EventFault.{EventFault}
use Rattle.gd_model.specs.Board.{Board, board_with, apply, apply_all, board}
use Rattle.gd_model.specs.Contents.{Content}
use Rattle.gd_model.specs.Drawing.{Drawing, find, first_tie, picture, tied_from}
use Rattle.gd_model.specs.Forms.{rank_at, tie_of, member_ties, form}
use Rattle.gd_model.specs.Objects.{new_connector, new_shape, new_group, fits, is_connector, is_drawn, own_ties, put}
use Rattle.gd_model.specs.Objects.{old, set, tied_by}
use Rattle.gd_model.specs.Undoing.{Lookup}
use Rattle.gd_model.specs.declared.form.Form.{Form}
use Rattle.gd_model.specs.declared.form.Form.TheVariants.{Sets, Puts, Takes}
use Rattle.gd_drawing.proofs.InOrder.{stacking}
use Rattle.gd_drawing.proofs.Listed.{find-listed}
use Rattle.gd_drawing.proofs.Lookups.{after, get-board_with}

-- ---- what is before a stamp t

-- an id, or the stamp of a rank
abbrev pub IsIdBefore : Stamp → Stamp → Type 0
IsIdBefore t id = IsStamp id × (is_before id t ≡ true)

-- the link of the object of that id
pub record IsLinkBefore (t id : Stamp) (link : Option Link) : Type 0 where
  pub typed : IsLinked link
  pub range : is_link_in_range link ≡ true
  pub before : is_link_before t id link ≡ true

-- the ends of a connector
pub record AreEndsBefore (t : Stamp) (ends : Option Ends) : Type 0 where
  pub typed : AreEnds ends
  pub before : are_ends_before t ends ≡ true

abbrev pub IsContentBefore : Stamp → Content → Type 0
IsContentBefore t (content.ToText label) = IsLabel label
IsContentBefore t (content.ToEnds ends) = (is_some ends ≡ true) × AreEndsBefore t ends
IsContentBefore t (content.ToRank rank) = IsIdBefore t (given_at rank)
IsContentBefore t c = is_content c ≡ true

-- the fields of the object of that id
pub record AreFieldsBefore (t id : Stamp) (o : Object) : Type 0 where
  pub place : (is_within place_limit o.x && is_within place_limit o.y) ≡ true
  pub size : (is_within size_limit o.w && is_within size_limit o.h) ≡ true
  pub look : is_look o.look ≡ true
  pub label : IsLabel o.label
  pub kind : is_of_kind o ≡ true
  pub ends : AreEndsBefore t o.ends
  pub rank : IsIdBefore t (given_at o.rank)
  pub link : IsLinkBefore t id o.link

all_fields : (t id : Stamp) (o : Object) → (is_within place_limit o.x && is_within place_limit o.y) ≡ true
    → (is_within size_limit o.w && is_within size_limit o.h) ≡ true → is_look o.look ≡ true → IsLabel o.label
    → is_of_kind o ≡ true → AreEndsBefore t o.ends → IsIdBefore t (given_at o.rank) → IsLinkBefore t id o.link
    → AreFieldsBefore t id o
all_fields t id o p s k l n e r b =
    record { place = p; size = s; look = k; label = l; kind = n; ends = e; rank = r; link = b }

-- ---- looks

six_parts : (a b c d e f : Bool) → (a && (b && (c && (d && (e && f))))) ≡ true
    → (a ≡ true) × (b ≡ true) × (c ≡ true) × (d ≡ true) × (e ≡ true) × (f ≡ true)
six_parts a b c d e f h =
    let p = and_parts a (b && (c && (d && (e && f)))) h in
    let q = and_parts b (c && (d && (e && f))) p.1 in
    let r = and_parts c (d && (e && f)) q.1 in
    let s = and_parts d (e && f) r.1 in
    let t = and_parts e f s.1 in
    (p.0, q.0, r.0, s.0, t.0, t.1)

six_from : (a b c d e f : Bool) → a ≡ true → b ≡ true → c ≡ true → d ≡ true → e ≡ true → f ≡ true
    → (a && (b && (c && (d && (e && f))))) ≡ true
six_from a b c d e f p q r s t u =
    and_from a _ p (and_from b _ q (and_from c _ r (and_from d _ s (and_from e f t u))))

-- what is found of a part, or else a value that will do
found_in : {A : Type 0} (P : A → Bool) (set : Option A) (x d : A) → P d ≡ true → P x ≡ true
    → P (unwrap_or (instead set x) d) ≡ true
found_in P None x d e h = e
found_in P (Some y) x d e h = h

-- what is set of a part, or else what stands there
given_in : {A : Type 0} (P : A → Bool) (set : Option A) (x d : A) → P (unwrap_or set d) ≡ true → P x ≡ true
    → P (unwrap_or set x) ≡ true
given_in P None x d e h = h
given_in P (Some y) x d e h = e

some_found : {A : Type 0} (set : Option A) (x : A) → is_some (instead set x) ≡ is_some set
some_found None x = refl
some_found (Some y) x = refl

look_parts : (k : Look) → is_look k ≡ true
    → (is_colour k.stroke ≡ true) × (is_fill k.fill ≡ true) × (is_width k.width ≡ true) × (is_round k.round ≡ true)
    × (is_opacity k.opacity ≡ true) × (is_letters k.letters ≡ true)
look_parts k =
    six_parts (is_colour k.stroke) (is_fill k.fill) (is_width k.width) (is_round k.round) (is_opacity k.opacity)
    (is_letters k.letters)

found_looks : (l : Looks) (k : Look) → has_look (taken l k) ≡ has_look l
found_looks l k =
    λ i. some_found l.stroke k.stroke i || (some_found l.fill k.fill i || (some_found l.width k.width i
    || (some_found l.dash k.dash i || (some_found l.heads k.heads i || (some_found l.round k.round i
    || (some_found l.opacity k.opacity i || (some_found l.letters k.letters i || some_found l.align k.align i)))))))

taken_in_range : (l : Looks) (k : Look) → are_looks l ≡ true → is_look k ≡ true → are_looks (taken l k) ≡ true
taken_in_range l k h e =
    let set = and_parts (has_look l) (are_numbers l) h in
    let look = look_parts k e in
    and_from (has_look (taken l k)) (are_numbers (taken l k)) (found_looks l k ∙ set.0)
    (six_from _ _ _ _ _ _ (found_in is_colour l.stroke k.stroke 0 refl look.0)
    (found_in is_fill l.fill k.fill None refl look.1) (found_in is_width l.width k.width 1 refl look.2)
    (found_in is_round l.round k.round None refl look.3) (found_in is_opacity l.opacity k.opacity 1 refl look.4)
    (found_in is_letters l.letters k.letters None refl look.5))

given_in_range : (l : Looks) (k : Look) → are_looks l ≡ true → is_look k ≡ true → is_look (given l k) ≡ true
given_in_range l k h e =
    let set = and_parts (has_look l) (are_numbers l) h in
    let new = six_parts (is_colour (unwrap_or l.stroke 0)) (is_fill (unwrap_or l.fill None))
    (is_width (unwrap_or l.width 1)) (is_round (unwrap_or l.round None)) (is_opacity (unwrap_or l.opacity 1))
    (is_letters (unwrap_or l.letters None)) set.1 in
    let look = look_parts k e in
    six_from _ _ _ _ _ _ (given_in is_colour l.stroke k.stroke 0 new.0 look.0)
    (given_in is_fill l.fill k.fill None new.1 look.1) (given_in is_width l.width k.width 1 new.2 look.2)
    (given_in is_round l.round k.round None new.3 look.3) (given_in is_opacity l.opacity k.opacity 1 new.4 look.4)
    (given_in is_letters l.letters k.letters None new.5 look.5)

-- ---- kinds

-- the ends that a connector has
ends_there : (k : Kind) (label : List ℕ) (ends : Option Ends) → is_connector k ≡ true
    → (is_label_of k label && are_ends_of k ends) ≡ true → is_some ends ≡ true
ends_there (kinds.Shape kind) label ends e h = cc
ends_there kinds.Group label ends e h = cc
ends_there kinds.Connector label ends e h = h

-- another label of what isn't a group
other_label : (k : Kind) (old new : List ℕ) (ends : Option Ends) → is_drawn k ≡ true
    → (is_label_of k old && are_ends_of k ends) ≡ true → (is_label_of k new && are_ends_of k ends) ≡ true
other_label (kinds.Shape kind) old new ends e h = h
other_label kinds.Group old new ends e h = cc
other_label kinds.Connector old new ends e h = h

-- other ends of a connector
other_ends : (k : Kind) (label : List ℕ) (new : Option Ends) → is_connector k ≡ true → is_some new ≡ true
    → (is_label_of k label && are_ends_of k new) ≡ true
other_ends (kinds.Shape kind) label new e h = cc
other_ends kinds.Group label new e h = cc
other_ends kinds.Connector label new e h = h

-- what stands in each part of an object that has it
pub each_before : (t id : Stamp) (o : Object) → AreFieldsBefore t id o → (c : Content) → fits c o.kind ≡ true
    → IsContentBefore t c → IsContentBefore t (old c o)
each_before t id o h (content.ToPlace x y) has new = h.place
each_before t id o h (content.ToSize a b) has new = h.size
each_before t id o h (content.ToLooks looks) has new = taken_in_range looks o.look new h.look
each_before t id o h (content.ToText label) has new = h.label
each_before t id o h (content.ToFlag flag) has new = refl
each_before t id o h (content.ToEnds ends) has new = (ends_there o.kind o.label o.ends has h.kind, h.ends)
each_before t id o h (content.ToRank rank) has new = h.rank

abbrev pub IsTieBefore : Stamp → Tie → Type 0
IsTieBefore t tie = IsIdBefore t tie.id × IsLinkBefore t tie.id tie.link

pub record AreTiesBefore (t : Stamp) (ties : List Tie) : Type 0 where
  pub few : length ties ≤ MOST_MEMBERS
  pub each : Every (IsTieBefore t) ties
  pub rising : rise_above None (map (λ x. x.id) ties) ≡ true

abbrev pub IsFormBefore : Stamp → Form → Type 0
IsFormBefore t (Sets id c) = IsIdBefore t id × IsContentBefore t c
IsFormBefore t (Puts id o ties) =
    IsIdBefore t id × AreFieldsBefore t id o × AreTiesBefore t ties × (nat_le (length ties) (most_ties o.kind) ≡ true)
IsFormBefore t (Takes id ties) = IsIdBefore t id × AreTiesBefore t ties

-- ---- the fields of an object, and the object

four_parts : (a b c d : Bool) → (a && (b && (c && d))) ≡ true → ((a && b) ≡ true) × ((c && d) ≡ true)
four_parts true true c d h = (refl, h)
four_parts true false c d h = cc
four_parts false b c d h = cc

box_parts : (x y w h : ℤ) → is_box_in_range x y w h ≡ true
    → ((is_within place_limit x && is_within place_limit y) ≡ true)
    × ((is_within size_limit w && is_within size_limit h) ≡ true)
box_parts x y w h =
    four_parts (is_within place_limit x) (is_within place_limit y) (is_within size_limit w) (is_within size_limit h)

four_from : (a b c d : Bool) → (a && b) ≡ true → (c && d) ≡ true → (a && (b && (c && d))) ≡ true
four_from true true c d p q = q
four_from true false c d p q = cc
four_from false b c d p q = cc

box_from : (x y w h : ℤ) → (is_within place_limit x && is_within place_limit y) ≡ true
    → (is_within size_limit w && is_within size_limit h) ≡ true → is_box_in_range x y w h ≡ true
box_from x y w h =
    four_from (is_within place_limit x) (is_within place_limit y) (is_within size_limit w) (is_within size_limit h)

-- the id, the rank, the ends and the link of an object are before that stamp
names_parts : (s id : Stamp) (o : Object) → is_object_before s id o ≡ true
    → (is_before id s ≡ true) × (is_before (given_at o.rank) s ≡ true) × (are_ends_before s o.ends ≡ true)
    × (is_link_before s id o.link ≡ true)
names_parts s id o h =
    let ends = are_ends_before s o.ends && is_link_before s id o.link in
    let p = and_parts (is_before id s) (is_before (given_at o.rank) s && ends) h in
    let q = and_parts (is_before (given_at o.rank) s) ends p.1 in
    let r = and_parts (are_ends_before s o.ends) (is_link_before s id o.link) q.1 in
    (p.0, q.0, r.0, r.1)

-- what is before a stamp is before a later one
link_later : (s t id : Stamp) (link : Option Link) → is_before s t ≡ true → is_link_before s id link ≡ true
    → is_link_before t id link ≡ true
link_later s t id None l h = refl
link_later s t id (Some link) l h =
    let both = and_parts (is_before id link.parent) (is_before link.parent s) h in
    and_from (is_before id link.parent) (is_before link.parent t) both.0 (is_before-trans link.parent s t both.1 l)

between_later : (s t : Stamp) (ends : Ends) → is_before s t ≡ true → is_between s ends ≡ true
    → is_between t ends ≡ true
between_later s t ends l h =
    let both = and_parts (is_before ends.from s) (is_before ends.to s) h in
    and_from (is_before ends.from t) (is_before ends.to t) (is_before-trans ends.from s t both.0 l)
    (is_before-trans ends.to s t both.1 l)

ends_later : (s t : Stamp) (ends : Option Ends) → is_before s t ≡ true → are_ends_before s ends ≡ true
    → are_ends_before t ends ≡ true
ends_later s t None l h = refl
ends_later s t (Some ends) l h = between_later s t ends l h

pub fields_before : (s t id : Stamp) (o : Object) → is_before s t ≡ true → IsObject o → is_object_in_range o ≡ true
    → is_object_before s id o ≡ true → AreFieldsBefore t id o
fields_before s t id o l typed range before =
    let behind = is_of_kind o && is_link_in_range o.link in
    let ranges = and_parts (is_box_in_range o.x o.y o.w o.h) (is_look o.look && behind) range in
    let box = box_parts o.x o.y o.w o.h ranges.0 in
    let look = and_parts (is_look o.look) behind ranges.1 in
    let own = and_parts (is_of_kind o) (is_link_in_range o.link) look.1 in
    let names = names_parts s id o before in
    record {
      place = box.0;
      size = box.1;
      look = look.0;
      label = typed.label;
      kind = own.0;
      ends = record { typed = typed.ends; before = ends_later s t o.ends l names.2 };
      rank = (typed.rank, is_before-trans (given_at o.rank) s t names.1 l);
      link = record { typed = typed.link; range = own.1; before = link_later s t id o.link l names.3 };
    }

pub object_before : (t id : Stamp) (o : Object) → IsIdBefore t id → AreFieldsBefore t id o → IsObjectBefore t id o
object_before t id o i h =
    record {
      id_is = i.0;
      typed = record { label = h.label; ends = h.ends.typed; link = h.link.typed; rank = h.rank.0 };
      range =
          and_from (is_box_in_range o.x o.y o.w o.h) _ (box_from o.x o.y o.w o.h h.place h.size)
          (and_from (is_look o.look) _ h.look (and_from (is_of_kind o) (is_link_in_range o.link) h.kind h.link.range));
      before =
          and_from (is_before id t) _ i.1 (and_from (is_before (given_at o.rank) t) _ h.rank.1
          (and_from (are_ends_before t o.ends) (is_link_before t id o.link) h.ends.before h.link.before));
    }

-- ---- the form of a sound operation

abbrev first_fault : (range members before rising : Bool) (a b c d : EventFault) → Option EventFault
first_fault range members before rising a b c d =
    if not range then Some a else if not members then Some b else if not before then Some c
    else if not rising then Some d else None

pub fault_parts : (range members before rising : Bool) (a b c d : EventFault)
    → first_fault range members before rising a b c d ≡ None
    → (range ≡ true) × (members ≡ true) × (before ≡ true) × (rising ≡ true)
fault_parts true true true true a b c d e = (refl, refl, refl, refl)
fault_parts false m f i a b c d e = cc
fault_parts true false f i a b c d e = cc
fault_parts true true false i a b c d e = cc
fault_parts true true true false a b c d e = cc

no_label : IsLabel []
unfolding is_utf8 chars
no_label = record { fits = omega arith; plain = refl }

no_link : (t id : Stamp) → IsLinkBefore t id None
no_link t id = record { typed = tt; range = refl; before = refl }

pub no_ties : (t : Stamp) → AreTiesBefore t []
unfolding rise_above
no_ties t = record { few = omega arith; each = tt; rising = refl }

content_before : (s t : Stamp) (c : Done) → IsStamp s → is_before s t ≡ true → IsTypedBy IsHeight c
    → is_content c ≡ true → is_content_before s c ≡ true
    → IsContentBefore t (content_map (λ label. label) (λ looks. looks) (rank_at s) c)
content_before s t (content.ToText label) is l typed range before = typed
content_before s t (content.ToEnds ends) is l typed range before =
    (range, record { typed = typed; before = ends_later s t ends l before })
content_before s t (content.ToRank (To Bottom)) is l typed range before = (is, l)
content_before s t (content.ToRank (To Top)) is l typed range before = (is, l)
content_before s t (content.ToRank (At rank)) is l typed range before =
    (typed, is_before-trans (given_at rank) s t before l)
content_before s t c is l typed range before = range

each_tie : (s t : Stamp) (ties : List Tie) → is_before s t ≡ true → Every (λ x. IsStamp x.id × IsLinked x.link) ties
    → are_ties_in_range ties ≡ true → are_ties_before s ties ≡ true → Every (IsTieBefore t) ties
each_tie s t [] l y h k = tt
each_tie s t (x ∷ xs) l y h k =
    let range = and_parts (is_link_in_range x.link) (are_ties_in_range xs) h in
    let before = and_parts (is_tie_before s x) (are_ties_before s xs) k in
    let one = and_parts (is_before x.id s) (is_link_before s x.id x.link) before.0 in (
      (
        (y.0.0, is_before-trans x.id s t one.0 l),
        record { typed = y.0.1; range = range.0; before = link_later s t x.id x.link l one.1 },
      ),
      each_tie s t xs l y.1 range.1 before.1,
    )

ties_before : (s t : Stamp) (ties : List Tie) → is_before s t ≡ true → AreTies ties → are_ties_in_range ties ≡ true
    → are_ties_before s ties ≡ true → rise_above None (map (λ x. x.id) ties) ≡ true → AreTiesBefore t ties
ties_before s t ties l typed range before rising =
    let each = recursion_from_All _ ties typed.1 in
    record { few = typed.0; each = each_tie s t ties l each range before; rising = rising }

-- the members of a sound group are all tied
all_members : (s : Stamp) (ms : List Member) → list_all (is_member_before s) ms ≡ true
    → member_ties s ms ≡ map (tie_of s) ms
all_members s [] h = refl
all_members s (m ∷ ms) h =
    let both = and_parts (is_member_before s m) (list_all (is_member_before s) ms) h in
    ap (λ b. map (tie_of s) (cond b (m ∷ filter (λ n. is_before n.id s) ms) (filter (λ n. is_before n.id s) ms))) both.0
    ∙ ap (λ xs. tie_of s m ∷ xs) (all_members s ms both.1)

ids-tied : (s : Stamp) (ms : List Member) → map (λ x. x.id) (map (tie_of s) ms) ≡ map (λ m. m.id) ms
ids-tied s [] = refl
ids-tied s (m ∷ ms) = ap (λ xs. m.id ∷ xs) (ids-tied s ms)

each_member : (s t : Stamp) (ms : List Member) → IsStamp s → is_before s t ≡ true → Every (λ m. IsStamp m.id) ms
    → list_all is_shift_in_range ms ≡ true → list_all (is_member_before s) ms ≡ true
    → Every (IsTieBefore t) (map (tie_of s) ms)
each_member s t [] is l y h k = tt
each_member s t (m ∷ ms) is l y h k =
    let range = and_parts (is_shift_in_range m) (list_all is_shift_in_range ms) h in
    let before = and_parts (is_before m.id s) (list_all (is_member_before s) ms) k in (
      (
        (y.0, is_before-trans m.id s t before.0 l),
        record { typed = is; range = range.0; before = and_from (is_before m.id s) (is_before s t) before.0 l },
      ),
      each_member s t ms is l y.1 range.1 before.1,
    )

members_before : (s t : Stamp) (ms : List Member) → IsStamp s → is_before s t ≡ true → length ms ≤ MOST_MEMBERS
    → Every (λ m. IsStamp m.id) ms → list_all is_shift_in_range ms ≡ true → list_all (is_member_before s) ms ≡ true
    → rise_above None (map (λ m. m.id) ms) ≡ true → AreTiesBefore t (member_ties s ms)
members_before s t ms is l few y h k rising =
    subst (AreTiesBefore t) (sym (all_members s ms k))
    (record {
      few = omega (arith, length-map ms (tie_of s), few);
      each = each_member s t ms is l y h k;
      rising = ap (rise_above None) (ids-tied s ms) ∙ rising;
    })

no_ends : (t : Stamp) → AreEndsBefore t None
no_ends t = record { typed = tt; before = refl }

new_shape_before : (s t : Stamp) (kind : Shape) (x y w h : ℤ) (label : List ℕ) → IsStamp s → is_before s t ≡ true
    → IsLabel label → is_box_in_range x y w h ≡ true → AreFieldsBefore t s (new_shape s kind x y w h label)
new_shape_before s t kind x y w h label is l typed range =
    let box = box_parts x y w h range in
    all_fields t s (new_shape s kind x y w h label) box.0 box.1 refl typed refl (no_ends t) (is, l) (no_link t s)

new_group_before : (s t : Stamp) → IsStamp s → is_before s t ≡ true → AreFieldsBefore t s (new_group s)
unfolding is_utf8 chars
new_group_before s t is l =
    all_fields t s (new_group s) refl refl refl no_label refl (no_ends t) (is, l) (no_link t s)

new_connector_before : (s t : Stamp) (ends : Ends) (label : List ℕ) → IsStamp s → is_before s t ≡ true → IsLabel label
    → AreEndsBefore t (Some ends) → AreFieldsBefore t s (new_connector s ends label)
new_connector_before s t ends label is l typed joined =
    all_fields t s (new_connector s ends label) refl refl refl typed refl joined (is, l) (no_link t s)

-- a group may tie as many as there are members
group_ties : (t : Stamp) (ties : List Tie) → AreTiesBefore t ties → nat_le (length ties) MOST_MEMBERS ≡ true
group_ties t ties h = le-leb (length ties) MOST_MEMBERS h.few

form_by : (s t : Stamp) (op : Op) → IsStamp s → is_before s t ≡ true → IsWellTyped op → is_in_range op ≡ true
    → has_members op ≡ true → names_before s op ≡ true → has_rising_ids op ≡ true → IsFormBefore t (form s op)
form_by s t (Create kind x y w h label) is l typed range members before rising =
    ((is, l), new_shape_before s t kind x y w h label is l typed range, no_ties t, refl)
form_by s t (Connect ends label) is l typed range members before rising =
    let joined : AreEndsBefore t (Some ends) =
    record { typed = typed.0; before = between_later s t ends l before } in
    ((is, l), new_connector_before s t ends label is l typed.1 joined, no_ties t, refl)
form_by s t (Delete id) is l typed range members before rising =
    ((typed, is_before-trans id s t before l), no_ties t)
form_by s t (Set id c) is l typed range members before rising =
    let both = and_parts (is_before id s) (is_content_before s c) before in
    ((typed.0, is_before-trans id s t both.0 l), content_before s t c is l typed.1 range both.1)
form_by s t (Group ms) is l typed range members before rising =
    let each = recursion_from_All _ ms typed.1 in
    let ties = members_before s t ms is l typed.0 each range before rising in
    ((is, l), new_group_before s t is l, ties, group_ties t (member_ties s ms) ties)
form_by s t (Restore id o ties) is l typed range members before rising =
    let ranges = and_parts (is_object_in_range o) (are_ties_in_range ties) range in
    let both = and_parts (is_object_before s id o) (are_ties_before s ties) before in
    let own = names_parts s id o both.0 in (
      (typed.0, is_before-trans id s t own.0 l),
      fields_before s t id o l typed.1 ranges.0 both.0,
      ties_before s t ties l typed.2 ranges.1 both.1 rising,
      members,
    )
form_by s t (Disband id ties) is l typed range members before rising =
    let both = and_parts (is_before id s) (are_ties_before s ties) before in
    ((typed.0, is_before-trans id s t both.0 l), ties_before s t ties l typed.1 range both.1 rising)

pub form_before : (s t : Stamp) (op : Op) → IsStamp s → is_before s t ≡ true → IsOp s op → IsFormBefore t (form s op)
form_before s t op is l h =
    let parts = fault_parts (is_in_range op) (has_members op) (names_before s op) (has_rising_ids op) _ _ _ _ h.rules in
    form_by s t op is l h.typed parts.0 parts.1 parts.2 parts.3

-- ---- the board after a form

abbrev pub IsEntryBefore : Stamp → Stamp → Option Object → Type 0
IsEntryBefore t id x = IfSome x (λ o. IsIdBefore t id × AreFieldsBefore t id o)

abbrev pub IsLookupBefore : Stamp → Lookup → Type 0
IsLookupBefore t g = (id : Stamp) → IsEntryBefore t id (g id)

abbrev pub IsBoardBefore : Stamp → Board → Type 0
IsBoardBefore t b = IsLookupBefore t (map_of.get b)

put_before : (t id : Stamp) (c : Content) (o : Object) → fits c o.kind ≡ true → IsContentBefore t c
    → AreFieldsBefore t id o → AreFieldsBefore t id (put c o)
put_before t id (content.ToPlace x y) o has new h =
    all_fields t id _ new h.size h.look h.label h.kind h.ends h.rank h.link
put_before t id (content.ToSize a b) o has new h =
    all_fields t id _ h.place new h.look h.label h.kind h.ends h.rank h.link
put_before t id (content.ToLooks looks) o has new h =
    let look = given_in_range looks o.look new h.look in
    all_fields t id _ h.place h.size look h.label h.kind h.ends h.rank h.link
put_before t id (content.ToText label) o has new h =
    let kind = other_label o.kind o.label label o.ends has h.kind in
    all_fields t id _ h.place h.size h.look new kind h.ends h.rank h.link
put_before t id (content.ToFlag flag) o has new h =
    all_fields t id _ h.place h.size h.look h.label h.kind h.ends h.rank h.link
put_before t id (content.ToEnds ends) o has new h =
    let kind = other_ends o.kind o.label ends has new.0 in
    all_fields t id _ h.place h.size h.look h.label kind new.1 h.rank h.link
put_before t id (content.ToRank rank) o has new h =
    all_fields t id _ h.place h.size h.look h.label h.kind h.ends new h.link

tied_before : (t id : Stamp) (given : Option (Option Link)) (o : Object) → IfSome given (IsLinkBefore t id)
    → AreFieldsBefore t id o → AreFieldsBefore t id (tied_by given o)
tied_before t id None o g h = h
tied_before t id (Some link) o g h = all_fields t id _ h.place h.size h.look h.label h.kind h.ends h.rank g

first_before : (t : Stamp) (ties : List Tie) (q : Stamp) → Every (IsTieBefore t) ties
    → IfSome (first_tie ties q) (IsLinkBefore t q)
first_before t [] q h = tt
first_before t (x ∷ xs) q h =
    cond_both (is_same q x.id) (Some x.link) (first_tie xs q) (λ r. IfSome r (IsLinkBefore t q))
    (λ same. subst (λ id. IsLinkBefore t id x.link) (sym (is_same-true q x.id same)) h.0.1)
    (λ other. first_before t xs q h.1)

entry-set : (t id : Stamp) (c : Content) (x : Option Object) → IsContentBefore t c → IsEntryBefore t id x
    → IsEntryBefore t id (option_map (set c) x)
entry-set t id c None g h = tt
entry-set t id c (Some o) g h =
    let fields = AreFieldsBefore t id in
    (h.0, cond_both (fits c o.kind) (put c o) o fields (λ has. put_before t id c o has g h.1) (λ none. h.1))

entry-tied : (t id : Stamp) (ties : List Tie) (x : Option Object) → Every (IsTieBefore t) ties → IsEntryBefore t id x
    → IsEntryBefore t id (option_map (tied_by (first_tie ties id)) x)
entry-tied t id ties None g h = tt
entry-tied t id ties (Some o) g h = (h.0, tied_before t id (first_tie ties id) o (first_before t ties id g) h.1)

-- only a group ties others
own_each : (t : Stamp) (k : Kind) (ties : List Tie) → Every (IsTieBefore t) ties
    → Every (IsTieBefore t) (own_ties k ties)
own_each t (kinds.Shape kind) ties h = tt
own_each t kinds.Group ties h = h
own_each t kinds.Connector ties h = tt

from_each : (t : Stamp) (x : Option Object) (ties : List Tie) → Every (IsTieBefore t) ties
    → Every (IsTieBefore t) (tied_from x ties)
from_each t None ties h = tt
from_each t (Some o) ties h = own_each t o.kind ties h

after_before : (t : Stamp) (f : Form) (g : Lookup) → IsFormBefore t f → IsLookupBefore t g
    → IsLookupBefore t (after f g)
after_before t (Sets id c) g h k q =
    cond_both (is_same q id) (option_map (set c) (g q)) (g q) (IsEntryBefore t q)
    (λ same. entry-set t q c (g q) h.1 (k q)) (λ other. k q)
after_before t (Puts id o ts) g h k q =
    let ties = own_ties o.kind ts in
    let each = own_each t o.kind ts h.2.each in
    cond_both (is_some (g id)) (g q) (cond (is_same q id) (Some o) (option_map (tied_by (first_tie ties q)) (g q)))
    (IsEntryBefore t q) (λ there. k q)
    (λ absent. cond_both (is_same q id) (Some o) (option_map (tied_by (first_tie ties q)) (g q)) (IsEntryBefore t q)
    (λ same. subst (λ i. IsEntryBefore t i (Some o)) (sym (is_same-true q id same)) (h.0, h.1))
    (λ other. entry-tied t q ties (g q) each (k q)))
after_before t (Takes id ts) g h k q =
    let ties = tied_from (g id) ts in
    let each = from_each t (g id) ts h.1.each in
    let left = cond (is_same q id) None (g q) in
    cond_both (is_some (g id)) (option_map (tied_by (first_tie ties q)) left) (g q) (IsEntryBefore t q)
    (λ there. entry-tied t q ties left each
    (cond_both (is_same q id) None (g q) (IsEntryBefore t q) (λ same. tt) (λ other. k q)))
    (λ absent. k q)

pub with_before : (t : Stamp) (f : Form) (b : Board) → IsFormBefore t f → IsBoardBefore t b
    → IsBoardBefore t (board_with f b)
with_before t f b h k q = subst (IsEntryBefore t q) (sym (get-board_with f b q)) (after_before t f (map_of.get b) h k q)

all_before : (t : Stamp) (es : List Event) (b : Board) → Every (IsSoundBefore t) es → IsBoardBefore t b
    → IsBoardBefore t (apply_all es b)
unfolding apply
all_before t [] b h k = k
all_before t (e ∷ es) b h k =
    let f = form_before e.stamp t e.op h.0.0.stamp h.0.1 h.0.0.op in
    all_before t es (apply e.stamp e.op b) h.1 (with_before t (form e.stamp e.op) b f k)

empty_before : (t : Stamp) → IsBoardBefore t map_of.empty
empty_before t q = subst (IsEntryBefore t q) (sym (map_of.get-empty stamp_cmp q)) tt

-- the board of sound events
pub board_before : (t : Stamp) (held : List Event) → Every (IsSoundBefore t) held → IsBoardBefore t (board held)
board_before t held h =
    all_before t (ordered held) map_of.empty
    (Every-all_inserted (λ (e : Event). e.stamp) (IsSoundBefore t) [] held tt h) (empty_before t)

-- ---- each object

pub on_board : (t : Stamp) (held : List Event) (id : Stamp) (o : Object) → Every (IsSoundBefore t) held
    → map_of.get (board held) id ≡ Some o → IsObjectBefore t id o
on_board t held id o h there =
    let e : IsEntryBefore t id (Some o) = subst (IsEntryBefore t id) there (board_before t held h id) in
    object_before t id o e.0 e.1

-- what is found in the drawing is on the board
pub find-picture : (held : List Event) (id : Stamp) → find id (picture held) ≡ map_of.get (board held) id
find-picture held id = ap (λ (d : Drawing). find id d) (sym (stacking held)) ∙ find-listed (board held) id

pub in_picture : (t : Stamp) (held : List Event) (id : Stamp) (o : Object) → Every (IsSoundBefore t) held
    → find id (picture held) ≡ Some o → IsObjectBefore t id o
in_picture t held id o h there = on_board t held id o h (sym (find-picture held id) ∙ there)
