-- The drawing is the one whose order isn't read off ranks, but for the ranks that its objects have.
use Rattle.std.proofs.Common.{◌≡◌, Bool, true, false, cond, not, ◌&&◌, List, [], ◌∷◌, ◌++◌, map, fold, Option, None}
use Rattle.std.proofs.Common.{Some, refl, sym, ap, ◌∙◌, subst, T}
use Rattle.std.specs.Prelude.{is_some, option_map, IsTrue}
use Rattle.std.specs.List.{AllByRecursion as Every, filter, list_all}
use Rattle.std.specs.FinMap as map_of
use Rattle.std.specs.FinMap.Entries.{is_sorted-where_key}
use Rattle.std.proofs.lemmas.Bool.{and_parts, not-true}
use Rattle.std.proofs.lemmas.List.{append-nil, map-append}
use Rattle.gd_base.specs.Stamps.{Stamp, is_same, is_before}
use Rattle.gd_base.specs.declared.content.Height.TheVariants.{To, At}
use Rattle.gd_base.specs.declared.content.Side.TheVariants.{Bottom, Top}
use Rattle.gd_base.proofs.Insertions as insertions
use Rattle.gd_base.proofs.Insertions.{Every-inserted, Every-all_inserted, IsApart, Rises, Rises-inserted}
use Rattle.gd_base.proofs.Lists.{Every-weaker}
use Rattle.gd_base.proofs.StampLemmas.{is_same-comm, is_before-trans}
use Rattle.gd_events.specs.Events.{Event}
use Rattle.gd_events.specs.Ordered.{inserted, ordered, is_new, are_distinct}
use Rattle.gd_base.specs.Ranks.{level, is_same_rank, given_at, level_cmp}
use Rattle.gd_base.specs.declared.object.Link.{Link}
use Rattle.gd_base.specs.Whole.{Object}
use Rattle.gd_events.specs.Ops.{Op}
use Rattle.gd_base.specs.declared.op.Op.TheVariants.{Connect, Create, Delete, Set, Group, Restore, Disband}
use Rattle.gd_base.specs.declared.rank.Rank.{Rank}
use Rattle.gd_base.specs.declared.rank.Rank.TheVariants.{Low, High}
use Rattle.gd_base.specs.declared.ties.Tie.{Tie}
use Rattle.gd_model.specs.Contents.{Content}
use Rattle.gd_base.specs.declared.content.Content.TheVariants.{ToPlace, ToRank}
use Rattle.gd_model.specs.declared.form.Form.{Form}
use Rattle.gd_model.specs.declared.form.Form.TheVariants.{Sets, Puts, Takes}
use Rattle.gd_model.specs.Forms.{form}
use Rattle.gd_model.specs.Objects.{fits, own_ties, put, set, tied_by}
use Rattle.gd_model.specs.Drawing.{Drawing, has_id, find, is_there, at_id, without, placed, placed_if, first_tie}
use Rattle.gd_model.specs.Drawing.{all_tied, draw, applied, picture, tied_from}
use Rattle.gd_model.specs.Board.{Board, levels, without_levels, board_with}
use Rattle.gd_drawing.specs.Moves.{is_fresh, AreFresh, moved, moved_event, moved_picture, unranked}
use Rattle.gd_drawing.proofs.Lookups.{at_same, cond_same, own_none}
use Rattle.gd_drawing.proofs.Stacking.{level_test, level_step, same_levels, at_rank, Stands, without-levels}
use Rattle.gd_drawing.proofs.Listed.{find-stands}
use Rattle.gd_drawing.proofs.Entries.{levels-where, find-where}
use Rattle.gd_drawing.proofs.StackSteps.{step, keeps_rank}
use Rattle.gd_drawing.proofs.InOrder.{nothing_stands}
use Rattle.gd_drawing.proofs.Tops.{Ranks, Gives, RankBefore, ranks-draw, tested, raised, lowered, put_on_top}

abbrev stamp_of : Event → Stamp
stamp_of e = e.stamp

-- ---- distinct stamps in order

-- a test holds of an event that is put in and of the others
pub all-inserted : (p : Event → Bool) (es : List Event) (e : Event)
    → list_all p (inserted es e) ≡ (p e && list_all p es)
all-inserted = insertions.all-inserted stamp_of

-- each of the events has another stamp than those that are done
abbrev AllNew : List Event → List Event → Type 0
AllNew events done = Every (λ e. IsApart stamp_of e.stamp done) events

-- so it is after one of them is put in
AllNew-inserted : (e : Event) (es done : List Event) → AllNew es done → is_new es e ≡ true → AllNew es (inserted done e)
AllNew-inserted e [] done h n = tt
AllNew-inserted e (f ∷ fs) done h n =
    let parts = and_parts (not (is_same e.stamp f.stamp)) (is_new fs e) n in
    let apart : is_same f.stamp e.stamp ≡ false =
    is_same-comm f.stamp e.stamp ∙ not-true (is_same e.stamp f.stamp) parts.0 in (
      Every-inserted stamp_of (λ g. is_same f.stamp g.stamp ≡ false) done e h.0 apart,
      AllNew-inserted e fs done h.1 parts.1,
    )

-- where none is done, each is new
none_done : (es : List Event) → AllNew es []
none_done [] = tt
none_done (e ∷ es) = (tt, none_done es)

-- events whose stamps rise do so as others are put in
rises-fold : (es done : List Event) → Rises stamp_of done → AllNew es done → are_distinct es ≡ true
    → Rises stamp_of (fold inserted done es)
rises-fold [] done r n d = r
rises-fold (e ∷ es) done r n d =
    let parts = and_parts (is_new es e) (are_distinct es) d in
    rises-fold es (inserted done e) (Rises-inserted stamp_of done e n.0 r) (AllNew-inserted e es done n.1 parts.0)
    parts.1

-- ---- the object of one id, alone

module _ (b : Board) (d : Drawing) (stands : Stands b d) where
  alone_found : (id : Stamp) (r : Rank) (k : Stamp)
      → map_of.find level_cmp (level r k) (levels (filter (has_id id) d))
      ≡ at_rank r (cond (is_same k id) (map_of.get b id) None)
  alone_found id r k =
      ap (map_of.find level_cmp (level r k)) (levels-where (is_same id) d)
      ∙ find-where (λ i. is_same id i) (levels d) r k
      ∙ (λ i. cond (is_same-comm id k i) (stands.found r k i) None)
      ∙ by (is_same k id)
      ∙ ap (at_rank r) (sym (at_same k id (map_of.get b) None))
    where
      by : (t : Bool) → cond t (at_rank r (map_of.get b k)) None ≡ at_rank r (cond t (map_of.get b k) None)
      by true = refl
      by false = refl

  alone_sorted : (id : Stamp) → T (map_of.is_sorted level_cmp (levels (filter (has_id id) d)))
  alone_sorted id =
      subst T (ap (map_of.is_sorted level_cmp) (sym (levels-where (is_same id) d)))
      (is_sorted-where_key level_cmp (λ l. is_same id l.id) (levels d) stands.sorted)

  -- the objects of that id are what is there
  abbrev these : Stamp → Option Object → Drawing
  these id None = []
  these id (Some o) = (id, o) ∷ []

  alone_by : (id : Stamp) (x : Option Object) → map_of.get b id ≡ x → filter (has_id id) d ≡ these id x
  alone_by id None e =
      sym (without-levels (filter (has_id id) d))
      ∙ ap without_levels (same_levels (levels (filter (has_id id) d)) [] (alone_sorted id) tt
      (λ l. alone_found id l.rank l.id ∙ ap (λ x. at_rank l.rank (cond (is_same l.id id) x None)) e
      ∙ ap (at_rank l.rank) (cond_same (is_same l.id id) None)))
  alone_by id (Some o) e =
      sym (without-levels (filter (has_id id) d))
      ∙ ap without_levels (same_levels (levels (filter (has_id id) d)) ((level o.rank id, o) ∷ []) (alone_sorted id) tt
      (λ l. alone_found id l.rank l.id
      ∙ ap (λ x. at_rank l.rank (cond (is_same l.id id) x None)) e
      ∙ sym (level_step (is_same_rank l.rank o.rank) (is_same l.id id) o l.rank None refl (λ t. refl))
      ∙ ap (λ t. cond t (Some o) None) (sym (level_test l.rank l.id o.rank id))))

-- ---- one rank for all

module _ (r : Rank) where
  abbrev bare : Object → Object
  bare o = put (ToRank r) o

  bare-filter : (p : Stamp → Bool) (d : Drawing)
      → unranked r (filter (λ e. p e.0) d) ≡ filter (λ e. p e.0) (unranked r d)
  bare-filter p [] = refl
  bare-filter p (e ∷ es) =
      elim (p e.0) as (λ t. unranked r (cond t (e ∷ filter (λ f. p f.0) es) (filter (λ f. p f.0) es))
      ≡ cond t ((e.0, bare e.1) ∷ filter (λ f. p f.0) (unranked r es)) (filter (λ f. p f.0) (unranked r es))) [
        | true ↦ ap (λ l. (e.0, bare e.1) ∷ l) (bare-filter p es)
        | false ↦ bare-filter p es
      ]

  -- a change of objects by their ids that doesn't look at ranks
  bare-map : (f : Stamp → Object → Object) → ((id : Stamp) (o : Object) → bare (f id o) ≡ f id (bare o)) → (d : Drawing)
      → unranked r (map (λ e. (e.0, f e.0 e.1)) d) ≡ map (λ e. (e.0, f e.0 e.1)) (unranked r d)
  bare-map f blind [] = refl
  bare-map f blind (e ∷ es) = λ i. (e.0, blind e.0 e.1 i) ∷ bare-map f blind es i

  bare-put : (c : Content) (o : Object) → keeps_rank c ≡ true → bare (put c o) ≡ put c (bare o)
  bare-put (ToRank rank) o e = cc
  bare-put c o e = refl

  bare-set : (c : Content) (o : Object) (same fit : Bool) → keeps_rank c ≡ true
      → bare (cond same (cond fit (put c o) o) o) ≡ cond same (cond fit (put c (bare o)) (bare o)) (bare o)
  bare-set c o true true e = bare-put c o e
  bare-set c o true false e = refl
  bare-set c o false fit e = refl

  bare-at_id : (id : Stamp) (c : Content) (d : Drawing) → keeps_rank c ≡ true
      → unranked r (at_id id (set c) d) ≡ at_id id (set c) (unranked r d)
  bare-at_id id c d e =
      bare-map (λ k o. cond (is_same id k) (set c o) o) (λ k o. bare-set c o (is_same id k) (fits c o.kind) e) d

  bare-tie : (l : Option (Option Link)) (o : Object) → bare (tied_by l o) ≡ tied_by l (bare o)
  bare-tie None o = refl
  bare-tie (Some l) o = refl

  bare-tied : (ties : List Tie) (d : Drawing) → unranked r (all_tied ties d) ≡ all_tied ties (unranked r d)
  bare-tied ties d = bare-map (λ k o. tied_by (first_tie ties k) o) (λ k o. bare-tie (first_tie ties k) o) d

  bare-find : (id : Stamp) (d : Drawing) → is_there id (unranked r d) ≡ is_there id d
  bare-find id [] = refl
  bare-find id (e ∷ es) =
      elim (is_same id e.0) as (λ t. is_some (cond t (Some (bare e.1)) (find id (unranked r es)))
      ≡ is_some (cond t (Some e.1) (find id es))) [ true ↦ refl | false ↦ bare-find id es ]

  -- ---- one event

  -- both drawings are alike but for the ranks
  abbrev AreSame : Drawing → Drawing → Type 0
  AreSame d p = unranked r d ≡ unranked r p

  -- a form of an event at s
  abbrev IsOwn : Stamp → Form → Type 0
  IsOwn s (Sets id (ToRank rank)) = given_at rank ≡ s
  IsOwn s (Sets id c) = Unit {0}
  IsOwn s (Puts id o ties) = o.rank ≡ High s
  IsOwn s (Takes id ties) = ties ≡ []

  alike_without : (id : Stamp) (d p : Drawing) → AreSame d p → AreSame (without id d) (without id p)
  alike_without id d p same =
      bare-filter (λ k. not (is_same id k)) d ∙ ap (without id) same ∙ sym (bare-filter (λ k. not (is_same id k)) p)

  alike_alone : (id : Stamp) (d p : Drawing) → AreSame d p → AreSame (filter (has_id id) d) (filter (has_id id) p)
  alike_alone id d p same = bare-filter (is_same id) d ∙ ap (filter (has_id id)) same ∙ sym (bare-filter (is_same id) p)

  alike_append : (a b c d : Drawing) → AreSame a c → AreSame b d → AreSame (a ++ b) (c ++ d)
  alike_append a b c d x y = map-append _ a b ∙ (λ i. x i ++ y i) ∙ sym (map-append _ c d)

  module _ (s : Stamp) (b : Board) (d p : Drawing) (stands : Stands b d) (before : Ranks (RankBefore s) d)
      (same : AreSame d p) where
    raise_by : (id : Stamp) (x : Option Object) → find id d ≡ x → map_of.get b id ≡ x
        → AreSame (draw (Sets id (ToRank (High s))) d) (moved (Sets id (ToRank (High s))) p)
    raise_by id None e g =
        ap (λ y. unranked r (placed_if id (option_map (put (ToRank (High s))) y) (without id d))) e
        ∙ ap (unranked r) (sym (append-nil (without id d)))
        ∙ alike_append (without id d) [] (without id p) (filter (has_id id) p) (alike_without id d p same)
        (ap (unranked r) (sym (alone_by b d stands id None g)) ∙ alike_alone id d p same)
    raise_by id (Some o) e g =
        ap (unranked r) (raised s id o d (tested s d before) e)
        ∙ alike_append (without id d) ((id, put (ToRank (High s)) o) ∷ []) (without id p) (filter (has_id id) p)
        (alike_without id d p same)
        (ap (unranked r) (sym (alone_by b d stands id (Some o) g)) ∙ alike_alone id d p same)

    lower_by : (id : Stamp) (x : Option Object) → find id d ≡ x → map_of.get b id ≡ x
        → AreSame (draw (Sets id (ToRank (Low s))) d) (moved (Sets id (ToRank (Low s))) p)
    lower_by id None e g =
        ap (λ y. unranked r (placed_if id (option_map (put (ToRank (Low s))) y) (without id d))) e
        ∙ alike_append [] (without id d) (filter (has_id id) p) (without id p)
        (ap (unranked r) (sym (alone_by b d stands id None g)) ∙ alike_alone id d p same) (alike_without id d p same)
    lower_by id (Some o) e g =
        ap (unranked r) (lowered s id o d (tested s d before) e)
        ∙ alike_append ((id, put (ToRank (Low s)) o) ∷ []) (without id d) (filter (has_id id) p) (without id p)
        (ap (unranked r) (sym (alone_by b d stands id (Some o) g)) ∙ alike_alone id d p same)
        (alike_without id d p same)

    alike_tied : (ties : List Tie) → AreSame (all_tied ties d) (all_tied ties p)
    alike_tied ties = bare-tied ties d ∙ ap (all_tied ties) same ∙ sym (bare-tied ties p)

    there_alike : (id : Stamp) → is_there id d ≡ is_there id p
    there_alike id = sym (bare-find id d) ∙ ap (is_there id) same ∙ bare-find id p

    put_by : (id : Stamp) (o : Object) (ties : List Tie) → o.rank ≡ High s → (x : Option Object) → find id d ≡ x
        → AreSame (draw (Puts id o ties) d) (moved (Puts id o ties) p)
    put_by id o ties own None e =
        let us = own_ties o.kind ties in
        ap (unranked r) (put_on_top s id o ties d (tested s d before) e own)
        ∙ alike_append (all_tied us d) ((id, o) ∷ []) (all_tied us p) ((id, o) ∷ []) (alike_tied us) refl
        ∙ ap (λ t. unranked r (cond t p (all_tied us p ++ (id, o) ∷ []))) (sym (ap is_some e) ∙ there_alike id)
    put_by id o ties own (Some x) e =
        let us = own_ties o.kind ties in
        ap (λ y. unranked r (cond (is_some y) d (placed id o (all_tied us d)))) e
        ∙ same
        ∙ ap (λ t. unranked r (cond t p (all_tied us p ++ (id, o) ∷ []))) (sym (ap is_some e) ∙ there_alike id)

    tied_nothing : (q : Drawing) → all_tied [] q ≡ q
    tied_nothing [] = refl
    tied_nothing (e ∷ es) = ap (λ l. (e.0, e.1) ∷ l) (tied_nothing es)

    take_by : (id : Stamp) (x : Option Object) → find id d ≡ x → map_of.get b id ≡ x
        → AreSame (draw (Takes id []) d) (without id p)
    take_by id (Some o) e g =
        ap (λ y. unranked r (cond (is_some y) (all_tied (tied_from y []) (without id d)) d)) e
        ∙ ap (λ us. unranked r (all_tied us (without id d))) (own_none o.kind)
        ∙ ap (unranked r) (tied_nothing (without id d)) ∙ alike_without id d p same
    take_by id None e g =
        ap (λ y. unranked r (cond (is_some y) (all_tied (tied_from y []) (without id d)) d)) e
        ∙ ap (unranked r) (sym (kept d (alone_by b d stands id None g))) ∙ alike_without id d p same
      where
        kept : (q : Drawing) → filter (has_id id) q ≡ [] → without id q ≡ q
        kept [] h = refl
        kept (x ∷ xs) h =
            elim (is_same id x.0) as (λ t. cond t (x ∷ filter (has_id id) xs) (filter (has_id id) xs) ≡ []
            → cond (not t) (x ∷ without id xs) (without id xs) ≡ x ∷ xs) [
              | true ↦ λ k. cc
              | false ↦ λ k. ap (λ l. x ∷ l) (kept xs k)
            ] h

    sets_alike : (id : Stamp) (c : Content) → IsOwn s (Sets id c) → AreSame (draw (Sets id c) d) (moved (Sets id c) p)
    sets_alike id (ToRank (High t)) own =
        subst (λ q. AreSame (draw (Sets id (ToRank (High q))) d) (moved (Sets id (ToRank (High q))) p)) (sym own)
        (raise_by id (map_of.get b id) (find-stands b d stands id) refl)
    sets_alike id (ToRank (Low t)) own =
        subst (λ q. AreSame (draw (Sets id (ToRank (Low q))) d) (moved (Sets id (ToRank (Low q))) p)) (sym own)
        (lower_by id (map_of.get b id) (find-stands b d stands id) refl)
    sets_alike id c own = bare-at_id id c d refl ∙ ap (at_id id (set c)) same ∙ sym (bare-at_id id c p refl)

    form_alike : (f : Form) → IsOwn s f → AreSame (draw f d) (moved f p)
    form_alike (Sets id c) own = sets_alike id c own
    form_alike (Puts id o ties) own = put_by id o ties own (find id d) refl
    form_alike (Takes id ties) own =
        subst (λ us. AreSame (draw (Takes id us) d) (without id p)) (sym own)
        (take_by id (map_of.get b id) (find-stands b d stands id) refl)

  own_form : (s : Stamp) (op : Op) → is_fresh op ≡ true → IsOwn s (form s op)
  own_form s (Create kind x y w h label) fresh = refl
  own_form s (Group members) fresh = refl
  own_form s (Connect ends label) fresh = refl
  own_form s (Delete id) fresh = refl
  own_form s (Set id (ToRank (To Bottom))) fresh = refl
  own_form s (Set id (ToRank (To Top))) fresh = refl
  own_form s (Set id (ToRank (At rank))) fresh = cc
  own_form s (Set id content) fresh = tt
  own_form s (Restore id object ties) fresh = cc
  own_form s (Disband id ties) fresh = cc

  -- what such a form gives was given before a later event
  own_gives : (s t : Stamp) (f : Form) → is_before s t ≡ true → IsOwn s f → Gives (RankBefore t) f
  own_gives s t (Sets id (ToRank rank)) l own = ap (λ q. is_before q t) own ∙ l
  own_gives s t (Sets id (ToPlace x y)) l own = tt
  own_gives s t (Sets id c) l own = tt
  own_gives s t (Puts id o ties) l own = ap (λ k. is_before (given_at k) t) own ∙ l
  own_gives s t (Takes id ties) l own = tt

  later : (s t : Stamp) (d : Drawing) → is_before s t ≡ true → Ranks (RankBefore s) d → Ranks (RankBefore t) d
  later s t d l =
      Every-weaker _ _ (λ (e : Stamp × Object) (h : RankBefore s e.1.rank). is_before-trans (given_at e.1.rank) s t h l)
      d

  -- all ranks were given before the first of the events
  abbrev Ready : Drawing → List Event → Type 0
  Ready d [] = Unit {0}
  Ready d (e ∷ es) = Ranks (RankBefore e.stamp) d

  ready-next : (s : Stamp) (f : Form) (d : Drawing) (es : List Event) → IsOwn s f → Ranks (RankBefore s) d
      → Every (λ e. is_before s e.stamp ≡ true) es → Ready (draw f d) es
  ready-next s f d [] own before h = tt
  ready-next s f d (e ∷ es) own before h =
      ranks-draw (RankBefore e.stamp) f d (own_gives s e.stamp f h.0 own) (later s e.stamp d h.0 before)

  all_alike : (es : List Event) (b : Board) (d p : Drawing) → AreFresh es → Stands b d → Ready d es → Rises stamp_of es
      → AreSame d p → AreSame (fold applied d es) (fold moved_event p es)
  all_alike [] b d p fresh stands ready rises same = same
  all_alike (e ∷ es) b d p fresh stands ready rises same =
      let f = form e.stamp e.op in
      let own = own_form e.stamp e.op fresh.0 in
      all_alike es (board_with f b) (draw f d) (moved f p) fresh.1 (step f b d stands)
      (ready-next e.stamp f d es own ready rises.0) rises.1
      (form_alike e.stamp b d p stands ready same f own)

  ready_at_start : (es : List Event) → Ready [] es
  ready_at_start [] = tt
  ready_at_start (e ∷ es) = tt

  pub as_moved : (events : List Event) → AreFresh events → IsTrue (are_distinct events)
      → unranked r (picture events) ≡ unranked r (moved_picture events)
  as_moved events fresh distinct =
      all_alike (ordered events) map_of.empty [] []
      (Every-all_inserted (λ (e : Event). e.stamp) _ [] events tt fresh) nothing_stands
      (ready_at_start (ordered events))
      (rises-fold events [] tt (none_done events) distinct) refl
