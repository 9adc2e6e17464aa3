-- The objects of the board of sound events, by their ids: each is in its ranges.
use Rattle.std.proofs.Common.{◌≡◌, suc, Bool, true, false, cond, List, [], ◌∷◌, Option, Some, None, refl, sym, ap, ◌∙◌}
use Rattle.std.proofs.Common.{subst, arith, T}
use Rattle.std.specs.FinMap as map_of
use Rattle.std.specs.FinMap.Entries.{below_all}
use Rattle.std.specs.List.{AllByRecursion as Every}
use Rattle.std.proofs.lemmas.Bool.{and_parts}
use Rattle.gd_base.proofs.StampLemmas.{is_same-refl, is_same-true}
use Rattle.gd_base.specs.Kinds.{are_ends_of, is_label_of}
use Rattle.gd_base.specs.Ranks.{given_at}
use Rattle.gd_base.specs.Stamps.{Stamp, IsStamp, is_before, is_same, stamp_cmp}
use Rattle.gd_base.specs.Typed.{IsLinked}
use Rattle.gd_base.specs.declared.object.Link.{Link}
use Rattle.gd_base.specs.Whole.{Object}
use Rattle.gd_base.specs.declared.rank.Rank.{Rank}
use Rattle.gd_base.specs.declared.rank.Rank.TheVariants.{Low, High}
use Rattle.gd_drawing.proofs.SoundObjects.{AreFieldsBefore, IsEntryBefore, board_before}
use Rattle.gd_drawing.proofs.Stacking.{not_found, of_t, t_first, t_second}
use Rattle.gd_events.specs.Events.{Event}
use Rattle.gd_events.specs.Sound.{IsSound, is_above, is_link_in_range}
use Rattle.gd_grammar.specs.Reading.{AllFollow}
use Rattle.gd_model.specs.Board.{board}
use Rattle.gd_protocol.proofs.Drawn.{sound-before}
use Rattle.gd_reference.specs.SlowSite.{greatest_clock}
use Rattle.gd_snapshots.specs.Snapshots.{IsDrawn, IsLinkOrNone, IsPlaced, IsRank, Placed, id_of}

-- ---- an object that sound events left

linked : (link : Option Link) → IsLinked link → is_link_in_range link ≡ true → IsLinkOrNone link
linked None typed range = tt
linked (Some link) typed range = (typed, range)

ranked : (rank : Rank) → IsStamp (given_at rank) → IsRank rank
ranked (Low stamp) typed = typed
ranked (High stamp) typed = typed

drawn : (stamp id : Stamp) (o : Object) → AreFieldsBefore stamp id o → IsDrawn o
drawn stamp id o h =
    let kind = and_parts (is_label_of o.kind o.label) (are_ends_of o.kind o.ends) h.kind in
    record {
      place = h.place;
      size = h.size;
      look = h.look;
      label = h.label;
      title = kind.0;
      ends = h.ends.typed;
      joined = kind.1;
      link = linked o.link h.link.typed h.link.range;
      rank = ranked o.rank h.rank.0;
    }

-- ---- the objects in the order of their ids

-- the last one is before all of these, if there is one
abbrev IsBelow : Option Stamp → List Placed → Type 0
IsBelow None ps = Unit {0}
IsBelow (Some last) ps = T (below_all stamp_cmp last ps)

above_last : (last : Option Stamp) (p : Placed) (ps : List Placed) → IsBelow last (p ∷ ps)
    → is_above last p.0 ≡ true
above_last None p ps h = refl
above_last (Some last) p ps h = of_t (is_before last p.0) (t_first (is_before last p.0) (below_all stamp_cmp last ps) h)

-- each that is found there is as sound events before that stamp leave it
abbrev AreFound : Stamp → List Placed → Type 0
AreFound stamp ps = (id : Stamp) → IsEntryBefore stamp id (map_of.find stamp_cmp id ps)

module _ (stamp : Stamp) (p : Placed) (ps : List Placed) (found : AreFound stamp (p ∷ ps)) where
  abbrev behind : Stamp → Option Object
  behind id = map_of.find stamp_cmp id ps

  found_first : IsEntryBefore stamp p.0 (Some p.1)
  found_first =
      let here : cond (is_same p.0 p.0) (Some p.1) (behind p.0) ≡ Some p.1 = rw (is_same-refl p.0) refl in
      subst (IsEntryBefore stamp p.0) here (found p.0)

  -- the first one isn't among those behind it
  found_behind : T (below_all stamp_cmp p.0 ps) → AreFound stamp ps
  found_behind under id = go (is_same id p.0) refl (found id)
    where
      go : (b : Bool) → is_same id p.0 ≡ b → IsEntryBefore stamp id (cond b (Some p.1) (behind id))
          → IsEntryBefore stamp id (behind id)
      go true same h =
          let none : behind id ≡ None = ap behind (is_same-true id p.0 same) ∙ not_found stamp_cmp p.0 ps under in
          subst (IsEntryBefore stamp id) (sym none) tt
      go false other h = h

placed_behind : (stamp : Stamp) (last : Option Stamp) (ps : List Placed) → T (map_of.is_sorted stamp_cmp ps)
    → IsBelow last ps → AreFound stamp ps → AllFollow IsPlaced id_of last ps
unfolding AllFollow
placed_behind stamp last [] sorted below found = tt
placed_behind stamp last (p ∷ ps) sorted below found =
    let under = t_first (below_all stamp_cmp p.0 ps) (map_of.is_sorted stamp_cmp ps) sorted in
    let rest = t_second (below_all stamp_cmp p.0 ps) (map_of.is_sorted stamp_cmp ps) sorted in
    let here = found_first stamp p ps found in (
      record { id = here.0.0; above = above_last last p ps below; object = drawn stamp p.0 p.1 here.1 },
      placed_behind stamp (Some p.0) ps rest under (found_behind stamp p ps found under),
    )

-- ---- the board of sound events

-- they are all before this one
abbrev behind_all : List Event → Stamp
behind_all es = record { clock = suc (greatest_clock es); site = 0 }

pub placed_in_range : (es : List Event) → Every IsSound es → AllFollow IsPlaced id_of None (map_of.entries (board es))
placed_in_range es sound =
    let b = board es in
    let last = behind_all es in
    let all = board_before last es (sound-before last es sound (omega arith)) in
    placed_behind last None (map_of.entries b) (map_of.entries_sorted b) tt
    (λ id. subst (IsEntryBefore last id) (map_of.get-entries b id) (all id))
