-- The printed order, by the places of the items.
use Rattle.std.proofs.Common.{◌≡◌, ℕ, zero, suc, ◌+◌, ◌<◌, ◌≤◌, Bool, true, false, cond, List, [], ◌∷◌, ◌++◌, length}
use Rattle.std.proofs.Common.{drop, Option, None, Some, refl, sym, ap, ◌∙◌, subst, arith, add-one, drop-drop}
use Rattle.std.specs.Prelude.{is_none, option_to_list, reverse}
use Rattle.std.specs.List.{AllByRecursion as Every, filter, flat_map}
use Rattle.std.proofs.lemmas.List.{append-nil, append_assoc, reverse-append, length-append, length-drop}
use Rattle.std.proofs.Math.ListN.{get_or}
use Rattle.std.proofs.Math.Seq.{drop-cons, drop-length}
use Rattle.gd_base.specs.Stamps.{is_same}
use Rattle.gd_base.proofs.Lists.{Every-append, Every-prefix, Every-back}
use Rattle.gd_base.proofs.StampLemmas.{is_same-true, is_same-comm}
use Rattle.gd_base.specs.contracts.stamp.StampPartialEq.TheImpl.{eq-value}
use Rattle.indexmap.specs.IndexMap as index_map
use Rattle.indexmap.specs.IndexMap.{IndexMap}
use Rattle.gd_base.specs.Stamps.{Stamp}
use Rattle.gd_base.specs.declared.item.Item.{Item}
use Rattle.gd_model.specs.Shown.{is_parent, under, in_printed_order, climbs}
use Rattle.gd_drawing.proofs.PrintedOrder.{under-step}
use Rattle.gd_slots.proofs.SlotLemmas.{same_is}
use Rattle.gd_view.specs.Walk.{same_parent, first_from, nexts_from, first_in}
use Rattle.gd_view.specs.declared.firsts.Firsts.{Firsts}

-- an item, followed by its own
abbrev pub followed : List Item → Item → List Item
followed all i = i ∷ under (length all) all i.id

-- the item has that parent
abbrev pub chosen : Option Stamp → Item → Bool
chosen p i = same_parent p i.parent

-- the first item of a list and those after it with its parent, each followed by its own
unfoldable pub branch_in : List Item → List Item → List Item
branch_in all [] = []
branch_in all (i ∷ es) = followed all i ++ flat_map (followed all) (filter (chosen i.parent) es)

-- what is printed from that place on, within its group
unfoldable pub branch : List Item → ℕ → List Item
branch all k = branch_in all (drop k all)

-- the same from a place, where there is one
unfoldable pub branch_of : List Item → Option ℕ → List Item
branch_of all None = []
branch_of all (Some k) = branch all k

-- what is left to print: the last place of the stack comes first
unfoldable pub pending : List Item → List ℕ → List Item
pending all [] = []
pending all (k ∷ ks) = pending all ks ++ branch all k

-- a parent that is none is that of the top
same_none : (q : Option Stamp) → is_none q ≡ true → None ≡ q
same_none None e = refl
same_none (Some s) e = cc

-- a parent of that id is that group
same_some : (p : Stamp) (q : Option Stamp) → is_parent p q ≡ true → Some p ≡ q
same_some p None e = cc
same_some p (Some q) e = ap Some (is_same-true p q e)

-- the test tells parents apart
pub same_parent-true : (p q : Option Stamp) → same_parent p q ≡ true → p ≡ q
same_parent-true None q e = same_none q e
same_parent-true (Some p) q e = same_some p q e

-- behind the first of the items left
drop_more : {X : Type 0} (k : ℕ) (x : X) (xs all : List X) → drop k all ≡ x ∷ xs → drop (suc k) all ≡ xs
drop_more k x xs all e = ap (λ n. drop n all) (sym (add-one k)) ∙ sym (drop-drop 1 k all) ∙ ap (drop 1) e

-- the places from the first one on are the items with that parent
pub found : (all : List Item) (p : Option Stamp) (xs : List Item) (k : ℕ) → drop k all ≡ xs
    → branch_of all (first_from k p xs) ≡ flat_map (followed all) (filter (chosen p) xs)
unfolding first_from branch_of branch branch_in
found all p [] k e = refl
found all p (i ∷ es) k e =
    elim (same_parent p i.parent) as
    (λ t. same_parent p i.parent ≡ t
    → branch_of all (cond t (Some k) (first_from (suc k) p es))
    ≡ flat_map (followed all) (cond t (i ∷ filter (chosen p) es) (filter (chosen p) es))) [
      | true ↦ λ is.
          ap (branch_in all) e
          ∙ ap (λ q. followed all i ++ flat_map (followed all) (filter (chosen q) es))
          (sym (same_parent-true p i.parent is))
      | false ↦ λ is. found all p es (suc k) (drop_more k i es all e)
    ] refl

-- one place on the stack
pub opened_some : (all : List Item) (ks : List ℕ) (k : ℕ) → pending all (ks ++ k ∷ []) ≡ branch all k ++ pending all ks
unfolding pending
opened_some all [] k = sym (append-nil (branch all k))
opened_some all (x ∷ ks) k = ap (λ ps. ps ++ branch all x) (opened_some all ks k)
    ∙ append_assoc (branch all k) (pending all ks) (branch all x)

-- a place that is put on the stack is printed first
pub opened : (all : List Item) (ks : List ℕ) (o : Option ℕ)
    → pending all (ks ++ option_to_list o) ≡ branch_of all o ++ pending all ks
unfolding branch_of
opened all ks None = ap (pending all) (append-nil ks)
opened all ks (Some k) = opened_some all ks k

-- ---- links

-- the items from the place n on are linked, the last one first
pub record Linked (items : List Item) (n : ℕ) (f : Firsts) (links : List (Option ℕ)) : Type 0 where
  pub first : (q : Option Stamp) → first_in f q ≡ first_from n q (drop n items)
  pub next : links ≡ reverse (nexts_from n (drop n items))

-- before the last item nothing is linked
pub linked_none : (items : List Item) (n : ℕ) (f : Firsts) (links : List (Option ℕ)) → n ≡ length items
    → ((q : Option Stamp) → first_in f q ≡ None) → links ≡ [] → Linked items n f links
unfolding first_from nexts_from
linked_none items n f links e h is =
    let none : drop n items ≡ [] = ap (λ m. drop m items) e ∙ drop-length items in
    record {
      first = λ q. h q ∙ ap (first_from n q) (sym none);
      next = is ∙ ap (λ es. reverse (nexts_from n es)) (sym none);
    }

-- one item more is linked, in front of those behind it
pub linked_more : {items : List Item} {n : ℕ} {f : Firsts} {next : List (Option ℕ)} → Linked items n f next
    → (k : ℕ) (d : Item) (g : Firsts) (later : Option ℕ) (p : Option Stamp) (more : List (Option ℕ))
    → n ≡ suc k → k < length items → p ≡ (get_or items k d).parent
    → later ≡ first_in f p
    → ((q : Option Stamp) → first_in g q ≡ cond (same_parent q p) (Some k) (first_in f q))
    → more ≡ next ++ later ∷ []
    → Linked items k g more
unfolding first_from nexts_from
linked_more {items = items} {n = n} {f = f} {next = next} l k d g later p more is below parent old new pushed =
    let i = get_or items k d in
    let here : drop k items ≡ i ∷ drop (suc k) items = drop-cons items k d below in
    let firsts : (q : Option Stamp)
    → first_in f q ≡ first_from (suc k) q (drop (suc k) items) = λ q. l.first q
    ∙ ap (λ m. first_from m q (drop m items)) is in
    let nexts : next ≡ reverse (nexts_from (suc k) (drop (suc k) items)) = l.next
    ∙ ap (λ m. reverse (nexts_from m (drop m items))) is in
    let last : later ≡ first_from (suc k) i.parent (drop (suc k) items) = old ∙ firsts p
    ∙ ap (λ q. first_from (suc k) q (drop (suc k) items)) parent in
    record {
      first =
          λ q. new q ∙ ap (λ x. cond (same_parent q p) (Some k) x) (firsts q)
          ∙ ap (λ x. cond (same_parent q x) (Some k) (first_from (suc k) q (drop (suc k) items))) parent
          ∙ ap (first_from k q) (sym here);
      next = pushed ∙ (λ j. nexts j ++ last j ∷ [])
          ∙ sym (reverse-append (first_from (suc k) i.parent (drop (suc k) items) ∷ [])
          (nexts_from (suc k) (drop (suc k) items))) ∙ ap (λ es. reverse (nexts_from k es)) (sym here);
    }

-- ---- the walk

-- there is a next place, or none, for each item
pub length-nexts : (k : ℕ) (es : List Item) → length (nexts_from k es) ≡ length es
unfolding nexts_from
length-nexts k [] = refl
length-nexts k (i ∷ es) = ap suc (length-nexts (suc k) es)

-- the next place of an item, in a list that begins at the place j
next_in : (j k : ℕ) (es : List Item) (d : Item) (e : Option ℕ) → k < length es
    → get_or (nexts_from j es) k e ≡ first_from (suc (k + j)) (get_or es k d).parent (drop (suc k) es)
unfolding nexts_from
next_in j k [] d e h = absurd (omega arith)
next_in j zero (i ∷ es) d e h = let same : suc j ≡ suc (0 + j) = omega arith in ap (λ m. first_from m i.parent es) same
next_in j (suc k) (i ∷ es) d e h =
    let same : suc (k + suc j) ≡ suc (suc k + j) = omega arith in
    next_in (suc j) k es d e (omega arith) ∙ ap (λ m. first_from m (get_or es k d).parent (drop (suc k) es)) same

-- the next place of an item
pub next_at : (k : ℕ) (es : List Item) (d : Item) (e : Option ℕ) → k < length es
    → get_or (nexts_from 0 es) k e ≡ first_from (suc k) (get_or es k d).parent (drop (suc k) es)
next_at k es d e h = let same : suc (k + 0) ≡ suc k = omega arith in next_in 0 k es d e h
    ∙ ap (λ m. first_from m (get_or es k d).parent (drop (suc k) es)) same

-- an item, then its own, then the next of its group
pub branch_step : (all : List Item) → climbs all ≡ true → (k : ℕ) (d : Item) → k < length all
    → branch all k ≡ get_or all k d
    ∷ (branch_of all (first_from 0 (Some (get_or all k d).id) all)
    ++ branch_of all (first_from (suc k) (get_or all k d).parent (drop (suc k) all)))
unfolding branch branch_in
branch_step all c k d h =
    let i = get_or all k d in
    let own : under (length all) all i.id ≡ branch_of all (first_from 0 (Some i.id) all) = under-step all i.id c
    ∙ sym (found all (Some i.id) all 0 refl) in
    let later : flat_map (followed all) (filter (chosen i.parent) (drop (suc k) all))
    ≡ branch_of all (first_from (suc k) i.parent (drop (suc k) all))
    = sym (found all i.parent (drop (suc k) all) (suc k) refl) in
    ap (branch_in all) (drop-cons all k d h)
    ∙ (λ j. i ∷ (own j ++ later j))

-- ---- the map of the first items

-- what a map by id finds after a value was put, by the equality that it goes by
pub put_found : {X S : Type 0} (old new : IndexMap Stamp X S) (s : Stamp) (x : X)
    → ((q : Stamp) → index_map.get eq-value.it new q
    ≡ cond (eq-value.it s q) (Some x) (index_map.get eq-value.it old q))
    → (q : Stamp) → index_map.get is_same new q ≡ cond (is_same q s) (Some x) (index_map.get is_same old q)
put_found old new s x h q =
    ap (λ (e : Stamp → Stamp → Bool). index_map.get e new q) (sym same_is)
    ∙ h q
    ∙ ap (λ (e : Stamp → Stamp → Bool). cond (e s q) (Some x) (index_map.get e old q)) same_is
    ∙ ap (λ t. cond t (Some x) (index_map.get is_same old q)) (is_same-comm s q)

-- the first item of a group is put
pub put_in_group : (f g : Firsts) (s : Stamp) (k : ℕ) (p : Option Stamp) → g.top ≡ f.top → p ≡ Some s
    → ((q : Stamp) → index_map.get eq-value.it g.groups q
    ≡ cond (eq-value.it s q) (Some k) (index_map.get eq-value.it f.groups q))
    → (q : Option Stamp) → first_in g q ≡ cond (same_parent q p) (Some k) (first_in f q)
put_in_group f g s k p top is h None = top ∙ ap (λ x. cond (is_none x) (Some k) f.top) (sym is)
put_in_group f g s k p top is h (Some q) =
    put_found f.groups g.groups s k h q
    ∙ ap (λ x. cond (is_parent q x) (Some k) (index_map.get is_same f.groups q)) (sym is)

-- ---- the loop of the walk

-- all places are below n
abbrev pub within : ℕ → List ℕ → Type 0
within n ks = Every (λ k. k < n) ks

-- the first item of a group is an item
first-within : (n k : ℕ) (p : Option Stamp) (es : List Item) → k + length es ≤ n
    → within n (option_to_list (first_from k p es))
unfolding first_from
first-within n k p [] h = tt
first-within n k p (i ∷ es) h =
    elim (same_parent p i.parent) as (λ t. within n (option_to_list (cond t (Some k) (first_from (suc k) p es)))) [
      | true ↦ (omega arith, tt)
      | false ↦ first-within n (suc k) p es (omega arith)
    ]

-- what is printed and what is left to print make the whole
pub record Walking (all : List Item) (f : Firsts) (links : List (Option ℕ)) (out : List Item) (stack : List ℕ) : Type 0
  where
    pub first : (q : Option Stamp) → first_in f q ≡ first_from 0 q all
    pub next : links ≡ nexts_from 0 all
    pub whole : out ++ pending all stack ≡ in_printed_order all
    pub inside : within (length all) stack

-- the walk begins at the first top item
pub walk_starts : (all : List Item) (f : Firsts) (links : List (Option ℕ)) (top : Option ℕ) (empty stack : List ℕ)
    (out : List Item)
    → ((q : Option Stamp) → first_in f q ≡ first_from 0 q all) → links ≡ nexts_from 0 all → top ≡ first_in f None
    → empty ≡ [] → stack ≡ empty ++ option_to_list top → out ≡ [] → Walking all f links out stack
unfolding pending
walk_starts all f links top empty stack out first next is none e nothing =
    let e = e ∙ ap (λ ks. ks ++ option_to_list top) none in
    let start : top ≡ first_from 0 None all = is ∙ first None in
    record {
      first = first;
      next = next;
      whole = ap (λ ps. ps ++ pending all stack) nothing ∙ ap (pending all) e ∙ opened all [] top
          ∙ append-nil (branch_of all top) ∙ ap (branch_of all) start ∙ found all None all 0 refl;
      inside = subst (within (length all)) (sym e)
          (subst (λ o. within (length all) (option_to_list o)) (sym start)
          (first-within (length all) 0 None all (omega arith)));
    }

-- the last place of the stack is that of an item
pub walk_inside : {all : List Item} {f : Firsts} {links : List (Option ℕ)} {out : List Item} {stack : List ℕ}
    → Walking all f links out stack
    → (rest : List ℕ) (k : ℕ) → stack ≡ rest ++ k ∷ [] → (k < length all) × (k < length links)
walk_inside {all = all} {links = links} w rest k e =
    let here = (Every-back _ rest (k ∷ []) (subst (within (length all)) e w.inside)).0 in
    let same : length links ≡ length all = ap length w.next ∙ length-nexts 0 all in
    (here, omega arith)

-- one item is printed
pub walk_goes_on : {all : List Item} {f : Firsts} {links : List (Option ℕ)} {out : List Item} {stack : List ℕ}
    → Walking all f links out stack
    → climbs all ≡ true
    → (rest : List ℕ) (k : ℕ) (d i : Item) (x later own : Option ℕ) (one two : List ℕ) (printed : List Item)
    → stack ≡ rest ++ k ∷ []
    → i ≡ get_or all k d
    → later ≡ get_or links k x
    → own ≡ first_in f (Some i.id)
    → one ≡ rest ++ option_to_list later
    → two ≡ one ++ option_to_list own
    → printed ≡ out ++ i ∷ []
    → Walking all f links printed two
walk_goes_on {all = all} {f = f} {links = links} {out = out} {stack = stack} w c rest k d i x later own one two printed
    e is next child first second pushed =
    let inside = subst (within (length all)) e w.inside in
    let here : k < length all = (Every-back _ rest (k ∷ []) inside).0 in
    let behind : later ≡ first_from (suc k) (get_or all k d).parent (drop (suc k) all) = next
    ∙ ap (λ ls. get_or ls k x) w.next ∙ next_at k all d x here in
    let below : own ≡ first_from 0 (Some (get_or all k d).id) all = child ∙ w.first (Some i.id)
    ∙ ap (λ (x : Item). first_from 0 (Some x.id) all) is in
    let left : pending all two ≡ branch_of all own ++ (branch_of all later ++ pending all rest) =
    ap (pending all) second ∙ opened all one own
    ∙ ap (λ ps. branch_of all own ++ ps) (ap (pending all) first ∙ opened all rest later) in
    let was : pending all stack ≡ i ∷ (branch_of all own ++ branch_of all later) ++ pending all rest =
    ap (pending all) e ∙ opened_some all rest k
    ∙ ap (λ bs. bs ++ pending all rest)
    (branch_step all c k d here ∙ sym (λ j. is j ∷ (branch_of all (below j) ++ branch_of all (behind j)))) in
    let now : pending all stack ≡ i ∷ pending all two = was
    ∙ ap (λ ps. i ∷ ps) (append_assoc (branch_of all own) (branch_of all later) (pending all rest) ∙ sym left) in
    let last : within (length all) (option_to_list later)
    = subst (λ o. within (length all) (option_to_list o)) (sym behind)
    (first-within (length all) (suc k) _ (drop (suc k) all) (let n = length-drop (suc k) all in omega arith)) in
    let mine : within (length all) (option_to_list own)
    = subst (λ o. within (length all) (option_to_list o)) (sym below)
    (first-within (length all) 0 _ all (omega arith)) in
    record {
      first = w.first;
      next = w.next;
      whole = ap (λ ps. ps ++ pending all two) pushed ∙ append_assoc out (i ∷ []) (pending all two)
          ∙ ap (λ ps. out ++ ps) (sym now) ∙ w.whole;
      inside =
          subst (within (length all)) (sym second)
          (Every-append _ one _
          (subst (within (length all)) (sym first)
          (Every-append _ rest _ (Every-prefix _ rest (k ∷ []) inside) last)) mine);
    }

-- so less is left
pub walk_shrinks : {all : List Item} {f : Firsts} {links : List (Option ℕ)} {out printed : List Item}
    {stack two : List ℕ} → Walking all f links out stack → Walking all f links printed two
    → (i : Item) → printed ≡ out ++ i ∷ [] → length (pending all two) < length (pending all stack)
walk_shrinks {all = all} {out = out} {printed = printed} {stack = stack} {two = two} w v i pushed =
    let before = length-append out (pending all stack) in
    let behind = length-append printed (pending all two) in
    let whole : length (out ++ pending all stack)
    ≡ length (printed ++ pending all two) = ap length (w.whole ∙ sym v.whole) in
    let more : length printed ≡ length out + 1 = ap length pushed ∙ length-append out (i ∷ []) in
    omega arith

-- nothing is left on an empty stack
pub walk_ends : {all : List Item} {f : Firsts} {links : List (Option ℕ)} {out : List Item} {stack : List ℕ}
    → Walking all f links out stack → stack ≡ [] → out ≡ in_printed_order all
unfolding pending
walk_ends {all = all} {out = out} w e = sym (append-nil out) ∙ ap (λ ks. out ++ pending all ks) (sym e) ∙ w.whole
