-- A rank that an event gives of its own is above all, or below all, where all others were given before.
use Rattle.std.proofs.Common.{◌≡◌, Bool, true, false, cond, ◌&&◌, List, [], ◌∷◌, ◌++◌, map, fold, Option, None, Some}
use Rattle.std.proofs.Common.{refl, sym, ap, ◌∙◌, subst}
use Rattle.std.specs.Prelude.{is_some, option_map}
use Rattle.std.specs.List.{AllByRecursion as Every, filter}
use Rattle.std.proofs.lemmas.Bool.{and_parts, cond_both}
use Rattle.gd_base.specs.Stamps.{Stamp, is_before}
use Rattle.gd_base.specs.declared.content.Height.TheVariants.{To, At}
use Rattle.gd_base.specs.declared.content.Side.TheVariants.{Bottom, Top}
use Rattle.gd_base.proofs.Insertions.{Every-all_inserted}
use Rattle.gd_events.specs.Events.{Event}
use Rattle.gd_events.specs.Ordered.{ordered}
use Rattle.gd_events.specs.Sound.{is_object_before, names_before}
use Rattle.gd_base.proofs.StampLemmas.{is_before-trans}
use Rattle.gd_base.specs.Ranks.{level, given_at, is_below}
use Rattle.gd_base.specs.Whole.{Object}
use Rattle.gd_events.specs.Ops.{Op}
use Rattle.gd_base.specs.declared.op.Op.TheVariants.{Connect, Create, Set, Group, Restore}
use Rattle.gd_base.specs.declared.rank.Rank.{Rank}
use Rattle.gd_base.specs.declared.rank.Rank.TheVariants.{Low, High}
use Rattle.gd_base.specs.declared.ties.Tie.{Tie}
use Rattle.gd_model.specs.Contents.{Content}
use Rattle.gd_base.specs.declared.content.Content.TheVariants.{ToRank}
use Rattle.gd_model.specs.declared.form.Form.{Form}
use Rattle.gd_model.specs.declared.form.Form.TheVariants.{Sets, Puts, Takes}
use Rattle.gd_model.specs.Forms.{form}
use Rattle.gd_model.specs.Objects.{fits, own_ties, put, set, tied_by}
use Rattle.gd_model.specs.Drawing.{Drawing, has_id, find, is_there, at_id, without, placed, placed_if, first_tie}
use Rattle.gd_model.specs.Drawing.{all_tied, draw, applied, picture, tied_from}
use Rattle.gd_drawing.specs.Tops.{ranks_before, AreBefore}
use Rattle.gd_drawing.proofs.RankLemmas.{below_high, above_low}
use Rattle.gd_drawing.proofs.Stacking.{level_below}
use Rattle.gd_drawing.proofs.Entries.{AllUnder, AllOver, placed-end, placed-front}
use Rattle.gd_drawing.proofs.StackSteps.{rank-tied, keeps_rank, rank-set}

-- ---- at the end, and in front

all_under : (s id : Stamp) (d : Drawing) → ranks_before s d ≡ true → AllUnder (level (High s) id) d
all_under s id [] h = tt
all_under s id (e ∷ es) h =
    let both =
    and_parts _ _ h in (level_below e.1.rank e.0 (High s) id (below_high e.1.rank s both.0), all_under s id es both.1)

all_over : (s id : Stamp) (d : Drawing) → ranks_before s d ≡ true → AllOver (level (Low s) id) d
all_over s id [] h = tt
all_over s id (e ∷ es) h =
    let both =
    and_parts _ _ h in (level_below (Low s) id e.1.rank e.0 (above_low e.1.rank s both.0), all_over s id es both.1)

before-filter : (s : Stamp) (p : Stamp × Object → Bool) (d : Drawing) → ranks_before s d ≡ true
    → ranks_before s (filter p d) ≡ true
before-filter s p [] h = refl
before-filter s p (e ∷ es) h =
    let both = and_parts _ _ h in
    elim (p e) as (λ b. ranks_before s (cond b (e ∷ filter p es) (filter p es)) ≡ true) [
      | true ↦ ap (λ t. t && ranks_before s (filter p es)) both.0 ∙ before-filter s p es both.1
      | false ↦ before-filter s p es both.1
    ]

before-tied : (s : Stamp) (ties : List Tie) (d : Drawing) → ranks_before s (all_tied ties d) ≡ ranks_before s d
before-tied s ties d = go d
  where
    go : (es : Drawing) → ranks_before s (all_tied ties es) ≡ ranks_before s es
    go [] = refl
    go (e ∷ es) = λ i. is_before (given_at (rank-tied (first_tie ties e.0) e.1 i)) s && go es i

pub raised : (s id : Stamp) (o : Object) (d : Drawing) → ranks_before s d ≡ true → find id d ≡ Some o
    → draw (form s (Set id (ToRank (To Top)))) d ≡ without id d ++ (id, put (ToRank (High s)) o) ∷ []
raised s id o d h e =
    ap (λ x. placed_if id (option_map (put (ToRank (High s))) x) (without id d)) e
    ∙ placed-end id (put (ToRank (High s)) o) (without id d) (all_under s id (without id d) (before-filter s _ d h))

pub lowered : (s id : Stamp) (o : Object) (d : Drawing) → ranks_before s d ≡ true → find id d ≡ Some o
    → draw (form s (Set id (ToRank (To Bottom)))) d ≡ (id, put (ToRank (Low s)) o) ∷ without id d
lowered s id o d h e =
    ap (λ x. placed_if id (option_map (put (ToRank (Low s))) x) (without id d)) e
    ∙ placed-front id (put (ToRank (Low s)) o) (without id d) (all_over s id (without id d) (before-filter s _ d h))

pub put_on_top : (s id : Stamp) (o : Object) (ties : List Tie) (d : Drawing) → ranks_before s d ≡ true
    → find id d ≡ None → o.rank ≡ High s
    → draw (Puts id o ties) d ≡ all_tied (own_ties o.kind ties) d ++ (id, o) ∷ []
put_on_top s id o ties d h e r =
    let tied = all_tied (own_ties o.kind ties) d in
    ap (λ x. cond (is_some x) d (placed id o tied)) e
    ∙ placed-end id o tied
    (subst (λ k. AllUnder (level k id) tied) (sym r)
    (all_under s id tied (before-tied s (own_ties o.kind ties) d ∙ h)))

-- ---- the ranks of a drawing

module _ (P : Rank → Type 0) where
  abbrev pub Ranks : Drawing → Type 0
  Ranks d = Every (λ e. P e.1.rank) d

  -- the rank that a form gives
  abbrev pub Gives : Form → Type 0
  Gives (Sets id (ToRank rank)) = P rank
  Gives (Sets id c) = Unit {0}
  Gives (Puts id o ties) = P o.rank
  Gives (Takes id ties) = Unit {0}

  ranks-filter : (p : Stamp × Object → Bool) (d : Drawing) → Ranks d → Ranks (filter p d)
  ranks-filter p [] h = tt
  ranks-filter p (e ∷ es) h =
      cond_both (p e) _ _ Ranks (λ passes. (h.0, ranks-filter p es h.1)) (λ fails. ranks-filter p es h.1)

  ranks-map : (f : Stamp × Object → Object) → ((e : Stamp × Object) → (f e).rank ≡ e.1.rank) → (d : Drawing) → Ranks d
      → Ranks (map (λ e. (e.0, f e)) d)
  ranks-map f keeps [] h = tt
  ranks-map f keeps (e ∷ es) h = (subst P (sym (keeps e)) h.0, ranks-map f keeps es h.1)

  ranks-placed : (id : Stamp) (o : Object) (d : Drawing) → P o.rank → Ranks d → Ranks (placed id o d)
  ranks-placed id o [] p h = (p, tt)
  ranks-placed id o (e ∷ es) p h =
      cond_both (is_below (level o.rank id) (level e.1.rank e.0)) _ _ Ranks (λ below. (p, h))
      (λ above. (h.0, ranks-placed id o es p h.1))

  ranks-placed_if : (id : Stamp) (rank : Rank) (x : Option Object) (d : Drawing) → P rank → Ranks d
      → Ranks (placed_if id (option_map (put (ToRank rank)) x) d)
  ranks-placed_if id rank None d p h = h
  ranks-placed_if id rank (Some o) d p h = ranks-placed id (put (ToRank rank) o) d p h

  ranks-set : (id : Stamp) (c : Content) (d : Drawing) → keeps_rank c ≡ true → Ranks d → Ranks (at_id id (set c) d)
  ranks-set id c d e h =
      ranks-map (λ x. cond (has_id id x) (set c x.1) x.1) (λ x. rank-set c x.1 (has_id id x) (fits c x.1.kind) e) d h

  ranks-sets : (id : Stamp) (c : Content) (d : Drawing) → Gives (Sets id c) → Ranks d → Ranks (draw (Sets id c) d)
  ranks-sets id (ToRank rank) d g h = ranks-placed_if id rank (find id d) (without id d) g (ranks-filter _ d h)
  ranks-sets id c d g h = ranks-set id c d refl h

  ranks-tied : (ties : List Tie) (d : Drawing) → Ranks d → Ranks (all_tied ties d)
  ranks-tied ties d h =
      ranks-map (λ e. tied_by (first_tie ties e.0) e.1) (λ e. rank-tied (first_tie ties e.0) e.1) d h

  pub ranks-draw : (f : Form) (d : Drawing) → Gives f → Ranks d → Ranks (draw f d)
  ranks-draw (Sets id c) d g h = ranks-sets id c d g h
  ranks-draw (Puts id o ties) d g h =
      let us = own_ties o.kind ties in
      cond_both (is_there id d) _ _ Ranks (λ there. h)
      (λ new. ranks-placed id o (all_tied us d) g (ranks-tied us d h))
  ranks-draw (Takes id ties) d g h =
      cond_both (is_there id d) _ _ Ranks
      (λ there. ranks-tied (tied_from (find id d) ties) (without id d) (ranks-filter _ d h)) (λ absent. h)

  ranks-fold : (es : List Event) (d : Drawing) → Every (λ e. Gives (form e.stamp e.op)) es → Ranks d
      → Ranks (fold applied d es)
  ranks-fold [] d g h = h
  ranks-fold (e ∷ es) d g h = ranks-fold es (applied d e) g.1 (ranks-draw (form e.stamp e.op) d g.0 h)

abbrev pub RankBefore : Stamp → Rank → Type 0
RankBefore s r = is_before (given_at r) s ≡ true

gives : (s t : Stamp) (op : Op) → is_before t s ≡ true → names_before t op ≡ true → Gives (RankBefore s) (form t op)
gives s t (Create kind x y w h label) before named = before
gives s t (Group members) before named = before
gives s t (Connect ends label) before named = before
gives s t (Set id (ToRank (To Bottom))) before named = before
gives s t (Set id (ToRank (To Top))) before named = before
gives s t (Set id (ToRank (At rank))) before named =
    let both = and_parts (is_before id t) _ named in is_before-trans (given_at rank) t s both.1 before
gives s t (Set id content) before named = tt
gives s t (Restore id object ties) before named =
    let both = and_parts (is_object_before t id object) _ named in
    let own = and_parts (is_before id t) _ both.0 in
    let rank = and_parts (is_before (given_at object.rank) t) _ own.1 in
    is_before-trans (given_at object.rank) t s rank.0 before
gives s t op before named = tt

all_give : (s : Stamp) (es : List Event) → AreBefore s es → Every (λ e. Gives (RankBefore s) (form e.stamp e.op)) es
all_give s [] h = tt
all_give s (e ∷ es) h = (gives s e.stamp e.op h.0.0 h.0.1, all_give s es h.1)

pub tested : (s : Stamp) (d : Drawing) → Every (λ e. RankBefore s e.1.rank) d → ranks_before s d ≡ true
tested s [] h = refl
tested s (e ∷ es) h = ap (λ t. t && ranks_before s es) h.0 ∙ tested s es h.1

pub picture_before : (s : Stamp) (events : List Event) → AreBefore s events → ranks_before s (picture events) ≡ true
picture_before s events h =
    tested s (picture events)
    (ranks-fold (RankBefore s) (ordered events) []
    (all_give s (ordered events) (Every-all_inserted (λ (e : Event). e.stamp) _ [] events tt h)) tt)
