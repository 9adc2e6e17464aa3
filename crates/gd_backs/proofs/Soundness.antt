-- What takes a sound operation back, over sound events, is a sound operation at any later stamp.
use Rattle.std.proofs.Common.{◌≡◌, suc, ◌≤◌, true, List, [], ◌∷◌, length, map, Option, None, Some, refl, arith, le-leb}
use Rattle.std.specs.Prelude.{is_some, nat_le, option_map, unwrap_or}
use Rattle.std.proofs.lemmas.Bool.{and_from, and_parts, cond_both}
use Rattle.std.proofs.lemmas.List.Elements.{All-from_recursion}
use Rattle.std.specs.FinMap as map_of
use Rattle.std.specs.List.{AllByRecursion as Every}
use Rattle.gd_base.proofs.Lists.{Every-append, Every-weaker, list_all-from_Every}
use Rattle.gd_base.proofs.StampLemmas.{is_before-trans}
use Rattle.gd_base.specs.Stamps.{Stamp, IsStamp, is_before}
use Rattle.gd_base.specs.Typed.{AreTied, IsLinked}
use Rattle.gd_base.specs.declared.content.Content.TheVariants.{ToText, ToEnds, ToRank}
use Rattle.gd_base.specs.Kinds.{most_ties}
use Rattle.gd_base.specs.declared.object.Kind.{Kind}
use Rattle.gd_base.specs.declared.object.Kind.TheVariants.{Shape, Group, Connector}
use Rattle.gd_base.specs.declared.ranges.TheConstants.{MOST_MEMBERS}
use Rattle.gd_base.specs.Whole.{Object}
use Rattle.gd_base.specs.declared.ties.Tie.{Tie}
use Rattle.gd_drawing.proofs.SoundObjects.{AreTiesBefore, IsContentBefore, IsEntryBefore, IsFormBefore, IsIdBefore}
use Rattle.gd_drawing.proofs.SoundObjects.{IsLookupBefore, IsTieBefore, board_before, each_before, form_before, no_ties}
use Rattle.gd_drawing.proofs.SoundObjects.{object_before}
use Rattle.gd_events.specs.Events.{Event}
use Rattle.gd_events.specs.Ops.{Op}
use Rattle.gd_events.specs.Sound.{are_ties_before, are_ties_in_range, has_members, has_rising_ids, is_above}
use Rattle.gd_events.specs.Sound.{is_in_range, is_tie_before, names_before, rise_above, IsOp, IsSoundBefore}
use Rattle.gd_events.specs.Sound.{IsWellTyped}
use Rattle.gd_model.specs.Backs.{back, op_of}
use Rattle.gd_model.specs.Board.{board}
use Rattle.gd_model.specs.Contents.{Content}
use Rattle.gd_model.specs.Forms.{form}
use Rattle.gd_model.specs.Objects.{fits, old, own_ties}
use Rattle.gd_model.specs.Undoing.{Lookup, before_by, old_in, old_ties, with_old}
use Rattle.gd_model.specs.declared.form.Form.{Form}
use Rattle.gd_reference.specs.Judging.{with_event}
use Rattle.gd_reference.specs.SlowSite.{SlowSite}
use Rattle.gd_reference.specs.TakeBack.{back_of, backs_of}
use Rattle.gd_model.specs.declared.form.Form.TheVariants.{Sets, Puts, Takes}

-- ---- the operation of a form

sound_op : (t : Stamp) (op : Op) → IsWellTyped op → is_in_range op ≡ true → has_members op ≡ true
    → names_before t op ≡ true → has_rising_ids op ≡ true → IsOp t op
sound_op t op typed range members before rising =
    record { typed = typed; rules = rw (range, members, before, rising) refl }

sound_set : (t id : Stamp) (c : Content) → IsIdBefore t id → IsContentBefore t c → IsOp t (op_of (Sets id c))
sound_set t id (ToText label) i h = sound_op t _ (i.0, h) refl refl (and_from _ _ i.1 refl) refl
sound_set t id (ToEnds ends) i h = sound_op t _ (i.0, h.1.typed) h.0 refl (and_from _ _ i.1 h.1.before) refl
sound_set t id (ToRank rank) i h = sound_op t _ (i.0, h.0) refl refl (and_from _ _ i.1 h.1) refl
sound_set t id c i h = sound_op t _ (i.0, tt) h refl (and_from _ _ i.1 refl) refl

abbrev IsTied : Tie → Type 0
IsTied x = IsStamp x.id × IsLinked x.link

module _ (t : Stamp) (ties : List Tie) (h : AreTiesBefore t ties) where
  ties-tied : AreTied ties
  ties-tied =
      All-from_recursion IsTied ties
      (Every-weaker _ _ (λ (x : Tie) (k : IsTieBefore t x). (k.0.0, k.1.typed)) ties h.each)

  ties-range : are_ties_in_range ties ≡ true
  ties-range = list_all-from_Every _ ties (Every-weaker _ _ (λ (x : Tie) (k : IsTieBefore t x). k.1.range) ties h.each)

  ties-before : are_ties_before t ties ≡ true
  ties-before =
      list_all-from_Every (is_tie_before t) ties
      (Every-weaker _ _ (λ (x : Tie) (k : IsTieBefore t x). and_from _ _ k.0.1 k.1.before) ties h.each)

sound_form : (t : Stamp) (f : Form) → IsFormBefore t f → IsOp t (op_of f)
sound_form t (Sets id c) h = sound_set t id c h.0 h.1
sound_form t (Puts id o ties) h =
    let object = object_before t id o h.0 h.1 in
    sound_op t _ (h.0.0, object.typed, (h.2.few, ties-tied t ties h.2))
    (and_from _ _ object.range (ties-range t ties h.2)) h.3
    (and_from _ _ object.before (ties-before t ties h.2)) h.2.rising
sound_form t (Takes id []) h = sound_op t _ h.0.0 refl refl h.0.1 refl
sound_form t (Takes id (x ∷ xs)) h =
    sound_op t _ (h.0.0, (h.1.few, ties-tied t (x ∷ xs) h.1)) (ties-range t (x ∷ xs) h.1) (le-leb 1 _ (omega arith))
    (and_from _ _ h.0.1 (ties-before t (x ∷ xs) h.1)) h.1.rising

-- ---- the before-value of a form

-- ids that rise above one rise above what lies below it
rise-lower : (last : Option Stamp) (id : Stamp) (ids : List Stamp) → is_above last id ≡ true
    → rise_above (Some id) ids ≡ true → rise_above last ids ≡ true
unfolding rise_above
rise-lower last id [] a h = refl
rise-lower None id (j ∷ js) a h = (and_parts (is_before id j) _ h).1
rise-lower (Some low) id (j ∷ js) a h =
    let parts = and_parts (is_before id j) _ h in and_from _ _ (is_before-trans low id j a parts.0) parts.1

module _ (t : Stamp) (g : Lookup) (sound : IsLookupBefore t g) where
  old-each : (ties : List Tie) → Every (IsTieBefore t) (old_ties ties g)
  old-each [] = tt
  old-each (x ∷ xs) = by (g x.id) (sound x.id) (old-each xs)
    where
      by : (y : Option Object) → IsEntryBefore t x.id y → Every (IsTieBefore t) (old_ties xs g)
          → Every (IsTieBefore t) (with_old x.id y (old_ties xs g))
      by None h rest = rest
      by (Some o) h rest = ((h.0, h.1.link), rest)

  old-few : (ties : List Tie) → length (old_ties ties g) ≤ length ties
  old-few [] = omega arith
  old-few (x ∷ xs) = by (g x.id) (old-few xs)
    where
      by : (y : Option Object) → length (old_ties xs g) ≤ length xs
          → length (with_old x.id y (old_ties xs g)) ≤ suc (length xs)
      by None few = omega (arith, few)
      by (Some o) few = omega (arith, few)

  old-rising : (last : Option Stamp) (ties : List Tie) → rise_above last (map (λ x. x.id) ties) ≡ true
      → rise_above last (map (λ x. x.id) (old_ties ties g)) ≡ true
  unfolding rise_above
  old-rising last [] h = refl
  old-rising last (x ∷ xs) h =
      let parts = and_parts (is_above last x.id) _ h in
      by (g x.id) (old-rising last xs (rise-lower last x.id _ parts.0 parts.1))
      (and_from _ _ parts.0 (old-rising (Some x.id) xs parts.1))
    where
      by : (y : Option Object) → rise_above last (map (λ x. x.id) (old_ties xs g)) ≡ true
          → rise_above last (x.id ∷ map (λ x. x.id) (old_ties xs g)) ≡ true
          → rise_above last (map (λ x. x.id) (with_old x.id y (old_ties xs g))) ≡ true
      by None without with = without
      by (Some o) without with = with

  old-are : (ties : List Tie) → AreTiesBefore t ties → AreTiesBefore t (old_ties ties g)
  old-are ties h =
      record {
        few = omega (arith, old-few ties, h.few);
        each = old-each ties;
        rising = old-rising None ties h.rising;
      }

  -- only a group ties others
  own-are : (k : Kind) (ties : List Tie) → AreTiesBefore t ties → AreTiesBefore t (old_ties (own_ties k ties) g)
  own-are (Shape kind) ties h = no_ties t
  own-are Group ties h = old-are ties h
  own-are Connector ties h = no_ties t

  own-few : (k : Kind) (ties : List Tie) → AreTiesBefore t ties
      → nat_le (length (old_ties (own_ties k ties) g)) (most_ties k) ≡ true
  own-few (Shape kind) ties h = refl
  own-few Group ties h = le-leb (length (old_ties ties g)) MOST_MEMBERS (omega (arith, old-few ties, h.few))
  own-few Connector ties h = refl

  back_before : (f : Form) → IsFormBefore t f → IsFormBefore t (unwrap_or (before_by f g) f)
  back_before (Sets id c) h = by (g id) (sound id)
    where
      by : (x : Option Object) → IsEntryBefore t id x
          → IsFormBefore t (unwrap_or (option_map (Sets id) (old_in c x)) (Sets id c))
      by None k = h
      by (Some o) k =
          cond_both (fits c o.kind) (Some (old c o)) None
          (λ y. IsFormBefore t (unwrap_or (option_map (Sets id) y) (Sets id c)))
          (λ has. (h.0, each_before t id o k.1 c has h.1)) (λ none. h)
  back_before (Puts id o ties) h =
      cond_both (is_some (g id)) None (Some (Takes id (old_ties (own_ties o.kind ties) g)))
      (λ v. IsFormBefore t (unwrap_or v (Puts id o ties))) (λ there. h) (λ absent. (h.0, own-are o.kind ties h.2))
  back_before (Takes id ties) h = by (g id) (sound id)
    where
      by : (x : Option Object) → IsEntryBefore t id x
          → IsFormBefore t
          (unwrap_or (option_map (λ o. Puts id o (old_ties (own_ties o.kind ties) g)) x) (Takes id ties))
      by None k = h
      by (Some o) k = (h.0, k.1, own-are o.kind ties h.1, own-few o.kind ties h.1)

pub sound_back : (held : List Event) (s t : Stamp) (op : Op) → Every (IsSoundBefore t) held → IsStamp s
    → is_before s t ≡ true → IsOp s op → IsOp t (back s op (board held))
unfolding back
sound_back held s t op sound is l h =
    sound_form t _ (back_before t (map_of.get (board held)) (board_before t held sound) (form s op)
    (form_before s t op is l h))

-- ---- of several events

pub sound_backs : (slow : SlowSite) (es : List Event) (t : Stamp) → Every (IsSoundBefore t) slow.held
    → Every (IsSoundBefore t) es → Every (IsOp t) (backs_of slow es)
unfolding backs_of
sound_backs slow [] t held sound = tt
sound_backs slow (e ∷ es) t held sound =
    let next = with_event slow e in
    Every-append _ (backs_of next es) (back_of slow e ∷ [])
    (sound_backs next es t (Every-append _ slow.held (e ∷ []) held (sound.0, tt)) sound.1)
    (sound_back slow.held e.stamp t e.op held sound.0.0.stamp sound.0.1 sound.0.0.op, tt)
