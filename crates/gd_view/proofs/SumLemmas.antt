-- What stands above all objects, by what is known of greater ids.
use Rattle.std.proofs.Common.{◌≡◌, ℕ, suc, ◌+◌, ◌<◌, ◌≤◌, Bool, true, false, cond, ◌||◌, List, [], ◌∷◌, ◌++◌, map}
use Rattle.std.proofs.Common.{length, Option, None, Some, refl, sym, ap, ◌∙◌, subst, T, arith}
use Rattle.std.specs.Prelude.{option_map, is_some, IfSome}
use Rattle.std.specs.Option.{option_flatten}
use Rattle.std.specs.List.{AllByRecursion as Every, list_any}
use Rattle.std.specs.FinMap as map_of
use Rattle.std.specs.FinMap.Entries.{put, below_all}
use Rattle.std.proofs.lemmas.Int.{ints}
use Rattle.indexmap.specs.IndexMap as index_map
use Rattle.gd_base.specs.declared.ranges.TheConstants.{SESSION_EVENTS}
use Rattle.gd_base.specs.Stamps.{stamp_cmp, is_same, is_before}
use Rattle.gd_base.specs.contracts.stamp.StampPartialEq.TheImpl.{eq-value}
use Rattle.gd_base.proofs.Insertions.{Rises}
use Rattle.gd_base.proofs.Lists.{Every-back}
use Rattle.gd_base.proofs.StampLemmas.{is_same-true, is_same-comm, is_before-apart, is_before-trans}
use Rattle.gd_base.specs.Stamps.{Stamp}
use Rattle.gd_base.specs.declared.object.Link.{Link}
use Rattle.gd_base.specs.Whole.{Object}
use Rattle.gd_model.specs.Drawing.{Drawing}
use Rattle.gd_model.specs.Board.{Board, listed}
use Rattle.gd_model.specs.Shown.{above, above_by, through}
use Rattle.gd_drawing.proofs.Chains.{above-link}
use Rattle.gd_drawing.proofs.Stacking.{t_first, t_second, of_t}
use Rattle.gd_model.specs.declared.above.Above.{Above}
use Rattle.gd_view.specs.declared.known.Known.{Known}
use Rattle.gd_view.specs.Chains.{group_in, Within}
use Rattle.gd_view.specs.Sums.{known, above_of, above_at, AreKnown}
use Rattle.gd_drawing.proofs.Listed.{find-listed}
use Rattle.std.proofs.lemmas.List.{append_assoc, length-append, length-map}
use Rattle.gd_view.proofs.ChainLemmas.{by_group}
use Rattle.gd_view.proofs.WalkLemmas.{put_found}

-- ---- one object

-- what stands above an object with a link, by its group
above_group : (d : Drawing) (id : Stamp) (l : Link)
    → above d id (Some l) ≡ through l (group_in d id l) (λ g. above d l.parent g.link)
above_group d id l = above-link d id l
    ∙ by_group l (λ g. above d l.parent g.link) (is_before id l.parent) (map_of.find stamp_cmp l.parent d)

-- a link to a group whose sum is known
pub sum_some : (d : Drawing) (id : Stamp) (l : Link) (g : Object) (x : Option Above) → Some g ≡ group_in d id l
    → (is_before id l.parent ≡ true → x ≡ above_at d l.parent)
    → option_map (above_by l g) x ≡ above d id (Some l)
sum_some d id l g x e h = ap (option_map (above_by l g)) (there (is_before id l.parent) refl e)
    ∙ ap (λ y. through l y (λ g. above d l.parent g.link)) e ∙ sym (above_group d id l)
  where
    there : (t : Bool) → is_before id l.parent ≡ t → Some g ≡ cond t (map_of.find stamp_cmp l.parent d) None
        → x ≡ above d l.parent g.link
    there true is f = h is ∙ ap (above_of d l.parent) (sym f)
    there false is f = cc

-- one sum is put
pub put_sum : (j k : Known) (id : Stamp) (x : Option Above)
    → ((q : Stamp) → index_map.get eq-value.it k.sums q
    ≡ cond (eq-value.it id q) (Some x) (index_map.get eq-value.it j.sums q))
    → (q : Stamp) → known k q ≡ cond (is_same q id) x (known j q)
put_sum j k id x h q =
    ap option_flatten (put_found j.sums k.sums id x h q) ∙ by (is_same q id)
  where
    by : (t : Bool) → option_flatten (cond t (Some x) (index_map.get is_same j.sums q)) ≡ cond t x (known j q)
    by true = refl
    by false = refl

-- ---- the loop

-- the id is among these
abbrev pub is_member : Stamp → List Stamp → Bool
is_member q ks = list_any (is_same q) ks

-- the sums of the objects with these ids are kept, and no others
pub record Sums (d : Drawing) (done : List Stamp) (k : Known) : Type 0 where
  pub are : (q : Stamp) → known k q ≡ cond (is_member q done) (above_at d q) None
  pub within : (q : Stamp) → IfSome (known k q) (λ a. Within (length done) a)

-- each is before those behind it
abbrev Rising : List Stamp → Type 0
Rising = Rises (λ k. k)

-- the keys behind a key of a board are greater
below_keys : (x : Stamp) (es : List (Stamp × Object)) → T (below_all stamp_cmp x es)
    → Every (λ k. is_before x k ≡ true) (map (λ e. e.0) es)
below_keys x [] h = tt
below_keys x (e ∷ es) h = (of_t _ (t_first _ _ h), below_keys x es (t_second _ _ h))

-- the keys of a board rise
rising_keys : (es : List (Stamp × Object)) → T (map_of.is_sorted stamp_cmp es) → Rising (map (λ e. e.0) es)
rising_keys [] h = tt
rising_keys (e ∷ es) h = (below_keys e.0 es (t_first _ _ h), rising_keys es (t_second _ _ h))

-- a greater id is not that key
past : (p r : Stamp) (ks : List Stamp) → is_before r p ≡ true → is_member p (r ∷ ks) ≡ is_member p ks
past p r ks h = ap (λ t. t || is_member p ks) (is_same-comm p r ∙ is_before-apart r p h)

-- a greater id than the one at hand is among those that are done
member_above : (rest done : List Stamp) (id p : Stamp) → Rising (rest ++ id ∷ done) → is_before id p ≡ true
    → is_member p (rest ++ id ∷ done) ≡ is_member p done
member_above [] done id p h l = past p id done l
member_above (r ∷ rs) done id p h l
    = past p r (rs ++ id ∷ done) (is_before-trans r id p (Every-back _ rs (id ∷ done) h.0).0 l)
    ∙ member_above rs done id p h.1 l

-- the ids that are left and those that are done make the whole, and the sums of those are kept
pub record Summed (b : Board) (ks : List Stamp) (k : Known) (turn : ℕ) : Type 0 where
  pub done : List Stamp
  pub all : map_of.keys b ≡ ks ++ done
  pub count : turn ≡ length done
  pub sums : Sums (listed b) done k

-- an id that is no key has nothing
no_key : (b : Board) (q : Stamp) → is_member q (map_of.keys b) ≡ false → None ≡ above_at (listed b) q
no_key b q h = by (map_of.get b q) refl (map_of.contains_key-keys b q ∙ h)
  where
    by : (x : Option Object) → x ≡ map_of.get b q → is_some x ≡ false → None ≡ above_at (listed b) q
    by None e h = ap (above_of (listed b) q) (e ∙ sym (find-listed b q))
    by (Some o) e h = cc

-- what is kept for the keys alone is what is kept for all
by_key : (b : Board) (q : Stamp) (t : Bool) → is_member q (map_of.keys b) ≡ t
    → cond t (above_at (listed b) q) None ≡ above_at (listed b) q
by_key b q true h = refl
by_key b q false h = no_key b q h

-- the sums of greater ids are known
pub known_above : {b : Board} {ks : List Stamp} {k : Known} {turn : ℕ} → Summed b ks k turn
    → (rest : List Stamp) (id : Stamp) → ks ≡ rest ++ id ∷ []
    → (p : Stamp) → is_before id p ≡ true → known k p ≡ above_at (listed b) p
known_above {b = b} {k = k} s rest id e p l =
    let all : map_of.keys b ≡ rest ++ id ∷ s.done = s.all ∙ ap (λ ks. ks ++ s.done) e
    ∙ append_assoc rest (id ∷ []) s.done in
    let rising : Rising (rest ++ id ∷ s.done)
    = subst Rising all (rising_keys (map_of.entries b) (map_of.entries_sorted b)) in
    s.sums.are p ∙ by_key b p (is_member p s.done) (ap (is_member p) all ∙ member_above rest s.done id p rising l)

-- there are no more turns than objects
pub few_turns : {b : Board} {ks : List Stamp} {k : Known} {turn : ℕ} → Summed b ks k turn
    → (rest : List Stamp) (id : Stamp) → ks ≡ rest ++ id ∷ [] → map_of.len b ≤ SESSION_EVENTS → turn < SESSION_EVENTS
few_turns {b = b} {ks = ks} s rest id e h =
    let keys : length (map_of.entries b) ≡ length (map_of.keys b) = sym (length-map (map_of.entries b) _) in
    let size : map_of.len b ≡ length (map_of.entries b) = map_of.len-entries b in
    let parts : length (map_of.keys b) ≡ length ks + length s.done = ap length s.all ∙ length-append ks s.done in
    let more : length ks ≡ length rest + 1 = ap length e ∙ length-append rest (id ∷ []) in
    let count = s.count in
    omega arith

-- a sum of few links is one of more links
some_wider : (n m : ℕ) (x : Option Above) → n ≤ m → IfSome x (λ a. Within n a) → IfSome x (λ a. Within m a)
some_wider n m None h w = tt
some_wider n m (Some s) h w =
    let left = w.left in
    let right = w.right in
    let up = w.up in
    let down = w.down in
    record {
      left = omega (arith, ints);
      right = omega (arith, ints);
      up = omega (arith, ints);
      down = omega (arith, ints);
    }

-- one turn
pub summed_next : {b : Board} {ks : List Stamp} {k : Known} {turn : ℕ} → Summed b ks k turn
    → (rest : List Stamp) (id : Stamp) (x : Option Above) (next : Known) (more : ℕ)
    → ks ≡ rest ++ id ∷ []
    → x ≡ above_at (listed b) id
    → IfSome x (λ a. Within (1 + turn) a)
    → ((q : Stamp) → known next q ≡ cond (is_same q id) x (known k q))
    → more ≡ turn + 1
    → Summed b rest next more
summed_next {b = b} {k = k} {turn = turn} s rest id x next more e is within put up =
    let count = s.count in
    let n : 1 + turn ≡ suc (length s.done) = omega arith in
    record {
      done = id ∷ s.done;
      all = s.all ∙ ap (λ ks. ks ++ s.done) e ∙ append_assoc rest (id ∷ []) s.done;
      count = omega (arith, up, count);
      sums =
          record {
            are = λ q. put q ∙ here q (is_same q id) refl;
            within = λ q. subst (λ y. IfSome y (λ a. Within (suc (length s.done)) a)) (sym (put q))
                (bound q (is_same q id) (subst (λ m. IfSome x (λ a. Within m a)) n within));
          };
    }
  where
    here : (q : Stamp) (t : Bool) → is_same q id ≡ t
        → cond t x (known k q) ≡ cond (t || is_member q s.done) (above_at (listed b) q) None
    here q true h = is ∙ ap (above_at (listed b)) (sym (is_same-true q id h))
    here q false h = s.sums.are q

    bound : (q : Stamp) (t : Bool) → IfSome x (λ a. Within (suc (length s.done)) a)
        → IfSome (cond t x (known k q)) (λ a. Within (suc (length s.done)) a)
    bound q true w = w
    bound q false w = some_wider (length s.done) _ (known k q) (omega arith) (s.sums.within q)

-- after the last turn
pub summed_all : {b : Board} {ks : List Stamp} {k : Known} {turn : ℕ} → Summed b ks k turn → ks ≡ []
    → map_of.len b ≤ SESSION_EVENTS → AreKnown (listed b) k
summed_all {b = b} {k = k} s e few =
    let all : map_of.keys b ≡ s.done = s.all ∙ ap (λ ks. ks ++ s.done) e in
    let keys : length (map_of.entries b) ≡ length (map_of.keys b) = sym (length-map (map_of.entries b) _) in
    let size : map_of.len b ≡ length (map_of.entries b) = map_of.len-entries b in
    let parts : length (map_of.keys b) ≡ length s.done = ap length all in
    record {
      are = λ q. s.sums.are q ∙ by_key b q (is_member q s.done) (ap (is_member q) all);
      within = λ q. some_wider (length s.done) _ (known k q) (omega arith) (s.sums.within q);
    }
