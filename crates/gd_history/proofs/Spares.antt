-- What the entries at places bring along, in their order.
use Rattle.std.proofs.Common.{◌≡◌, ℕ, ◌+◌, ◌<◌, List, [], ◌∷◌, ◌++◌, length, take, drop, get_or, add-one, drop-cons}
use Rattle.std.proofs.Common.{Some, sym, ap, ◌∙◌, refl, arith, subst}
use Rattle.std.proofs.lemmas.List.{length-map, take_more}
use Rattle.std.proofs.lemmas.Option.{slice_get-get_or}
use Rattle.std.specs.List.{slice_get}
use Rattle.gd_repair.specs.Repair.{Stamped}
use Rattle.gd_history.specs.Entries.{EntryValue, event_of, events_of}
use Rattle.gd_history.specs.Reworks.{IsSpareAt, AreSpares}
use Rattle.gd_history.proofs.Entries.{event_read}

module _ {O B : Type 0} where
  -- the event of the entry that was read stands at the place
  event_there : (xs : List (EntryValue O B)) (at : ℕ) (x : EntryValue O B) → at < length xs → x ≡ get_or xs at x
      → slice_get (events_of xs) at ≡ Some (event_of x)
  event_there xs at x inside read =
      slice_get-get_or (events_of xs) at (event_of x) (omega (arith, length-map xs event_of))
      ∙ ap (λ (e : Stamped O). Some e) (event_read xs at x (event_of x) inside read)

  module _ {S : Type 0} (IsSpare : O → S → Type 0) (xs : List (EntryValue O B)) (at : ℕ) (x : EntryValue O B) (s : S)
      (inside : at < length xs) (read : x ≡ get_or xs at x) where
    pub IsSpareAt-read : IsSpare x.op s → IsSpareAt IsSpare (events_of xs) at s
    IsSpareAt-read h =
        λ (e : Stamped O) is.
        let there = event_there xs at x inside read in
        let same : event_of x ≡ e = cc (there, is) in
        subst (λ (f : Stamped O). IsSpare f.op s) same h

    pub spare_read : (o : O) → o ≡ x.op → IsSpareAt IsSpare (events_of xs) at s → IsSpare o s
    spare_read o same h = subst (λ p. IsSpare p s) (sym same) (h (event_of x) (event_there xs at x inside read))

module _ {O S : Type 0} (IsSpare : O → S → Type 0) (es : List (Stamped O)) where
  AreSpares-push : (ps : List ℕ) (ss : List S) (p : ℕ) (s : S) → AreSpares IsSpare es ps ss
      → IsSpareAt IsSpare es p s → AreSpares IsSpare es (ps ++ p ∷ []) (ss ++ s ∷ [])
  unfolding AreSpares
  AreSpares-push [] [] p s all here = (here, tt)
  AreSpares-push [] (t ∷ ss) p s all here = absurd all
  AreSpares-push (q ∷ ps) [] p s all here = absurd all
  AreSpares-push (q ∷ ps) (t ∷ ss) p s all here = (all.0, AreSpares-push ps ss p s all.1 here)

  pub AreSpares-none : AreSpares IsSpare es [] []
  unfolding AreSpares
  AreSpares-none = tt

  -- of one place more
  pub AreSpares-more : (places : List ℕ) (i p : ℕ) (ss : List S) (s : S) → i < length places → p ≡ get_or places i 0
      → AreSpares IsSpare es (take i places) ss → IsSpareAt IsSpare es p s
      → AreSpares IsSpare es (take (i + 1) places) (ss ++ s ∷ [])
  AreSpares-more places i p ss s inside is all here =
      subst (λ l. AreSpares IsSpare es l (ss ++ s ∷ []))
      (ap (λ q. take i places ++ q ∷ []) is ∙ sym (take_more places i 0 inside))
      (AreSpares-push (take i places) ss p s all here)

  place_there : (places : List ℕ) (at p : ℕ) → at < length places → p ≡ get_or places at 0
      → drop at places ≡ p ∷ drop (at + 1) places
  place_there places at p inside is =
      rw (add-one, drop-cons places at 0) refl ∙ ap (λ q. q ∷ drop (at + 1) places) (sym is)

  first_of_them : (p : ℕ) (ps : List ℕ) (s : S) (ss : List S) → AreSpares IsSpare es (p ∷ ps) (s ∷ ss)
      → IsSpareAt IsSpare es p s × AreSpares IsSpare es ps ss
  unfolding AreSpares
  first_of_them p ps s ss all = all

  no_spare : (p : ℕ) (ps : List ℕ) → AreSpares IsSpare es (p ∷ ps) [] → ⊥
  unfolding AreSpares
  no_spare p ps all = all

  -- the next one is that of the next place
  pub AreSpares-next : (places : List ℕ) (at p : ℕ) (left ss : List S) (s : S) → at < length places
      → p ≡ get_or places at 0 → left ≡ s ∷ ss → AreSpares IsSpare es (drop at places) left
      → IsSpareAt IsSpare es p s × AreSpares IsSpare es (drop (at + 1) places) ss
  AreSpares-next places at p left ss s inside is next all =
      first_of_them p (drop (at + 1) places) s ss
      (subst (λ l. AreSpares IsSpare es l (s ∷ ss)) (place_there places at p inside is)
      (subst (AreSpares IsSpare es (drop at places)) next all))

  -- while a place is left, so is what it brings along
  pub AreSpares-some : (places : List ℕ) (at : ℕ) (left : List S) → at < length places → left ≡ []
      → AreSpares IsSpare es (drop at places) left → ⊥
  AreSpares-some places at left inside none all =
      no_spare (get_or places at 0) (drop (at + 1) places)
      (subst (λ l. AreSpares IsSpare es l []) (place_there places at (get_or places at 0) inside refl)
      (subst (AreSpares IsSpare es (drop at places)) none all))
