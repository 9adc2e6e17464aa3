-- The loops that count and number the kept events of each site.
use Rattle.std.proofs.Common.{◌≡◌, ◌≢◌, ℕ, ◌+◌, ◌-◌, ◌<◌, ◌≤◌, ◌^◌, ◌==◌, Bool, true, false, List, [], ◌∷◌, ◌++◌}
use Rattle.std.proofs.Common.{length, drop, get_or, get_or-set_same, get_or-set_other, length-set, refl, sym, ap, ◌∙◌}
use Rattle.std.proofs.Common.{subst, arith, append-nil, eq-eqb, ne_eqb, eqb-true}
use Rattle.std.proofs.Math.Seq.{append_snoc}
use Rattle.std.proofs.lemmas.Bool.{eqb-false}
use Rattle.std.proofs.lemmas.List.{at_drop_more, drop_all}
use Rattle.gd_base.specs.Sites.{IsSite}
use Rattle.gd_base.specs.declared.ranges.TheConstants.{SITES}
use Rattle.gd_capture.specs.Numbering.{numbered, tally}
use Rattle.gd_events.specs.Events.{Event}
use Rattle.gd_events.specs.Ops.{Op}
use Rattle.gd_history.specs.Entries.{EntryValue, event_of, events_of}
use Rattle.gd_model.specs.Undoing.{Before}
use Rattle.gd_repair.specs.Repair.{Stamped}
use Rattle.gd_stable.specs.Heard.{of_site, put_at}

abbrev pub Entries : Type 0
Entries = List (EntryValue Op Before)

-- ---- a number for each site

pub put_sized : (xs : List ℕ) (site n : ℕ) → length xs ≡ SITES → length (put_at xs site n) ≡ SITES
put_sized xs site n sized = length-set xs (site - 1) n ∙ sized

pub put_same : (xs : List ℕ) (site n : ℕ) → length xs ≡ SITES → IsSite site → of_site (put_at xs site n) site ≡ n
put_same xs site n sized is = grind (arith, get_or-set_same {A = ℕ})

pub put_other : (xs : List ℕ) (site n t : ℕ) → IsSite site → IsSite t → t ≢ site
    → of_site (put_at xs site n) t ≡ of_site xs t
put_other xs site n t is other apart = grind (arith, get_or-set_other {A = ℕ})

-- ---- what is left of a list of entries

-- those from a place on begin with the one there
pub next_entry : {Y : Type 0} (F : List (Stamped Op) → Y) (xs : Entries) (i : ℕ) (x : EntryValue Op Before)
    → i < length xs → x ≡ get_or xs i x → F (events_of (drop i xs)) ≡ F (event_of x ∷ events_of (drop (i + 1) xs))
next_entry F xs i x inside read =
    at_drop_more (λ (l : Entries). F (events_of l)) xs i x inside
    ∙ ap (λ (y : EntryValue Op Before). F (event_of y ∷ events_of (drop (i + 1) xs))) (sym read)

pub none_left : {Y : Type 0} (F : List (Stamped Op) → Y) (xs : Entries) (i : ℕ) → length xs ≤ i
    → F (events_of (drop i xs)) ≡ F []
none_left F xs i out = ap (λ (l : Entries). F (events_of l)) (drop_all i xs out)

-- one event more of its site
pub tally_mine : (e : Stamped Op) (es : List (Stamped Op)) → tally e.stamp.site (e ∷ es) ≡ tally e.stamp.site es + 1
unfolding tally
tally_mine e es = rw (eq-eqb e.stamp.site e.stamp.site refl) refl

pub tally_other : (t : ℕ) (e : Stamped Op) (es : List (Stamped Op)) → t ≢ e.stamp.site → tally t (e ∷ es) ≡ tally t es
unfolding tally
tally_other t e es apart = rw (ne_eqb e.stamp.site t (λ same. apart (sym same))) (omega arith)

-- ---- taking the entries off the numbers

pub record TakingOff (xs : Entries) (old numbers : List ℕ) (place : ℕ) : Type 0 where
  pub sized : length numbers ≡ SITES
  pub left : (t : ℕ) → IsSite t
      → of_site numbers t + tally t (events_of xs) ≡ of_site old t + tally t (events_of (drop place xs))

pub taking_start : (xs : Entries) (old : List ℕ) → length old ≡ SITES → TakingOff xs old old 0
taking_start xs old sized = record { sized = sized; left = λ t is. refl }

module _ (xs : Entries) (old numbers : List ℕ) (place : ℕ) (h : TakingOff xs old numbers place) where
  pub taking_end : length xs ≤ place → (t : ℕ) → IsSite t → of_site numbers t + tally t (events_of xs) ≡ of_site old t
  unfolding tally
  taking_end out t is = omega (arith, h.left t is, none_left (tally t) xs place out)

  module _ (x : EntryValue Op Before) (inside : place < length xs) (read : x ≡ get_or xs place x)
      (is_site : IsSite x.stamp.site) where
    -- its site has one that is left
    pub taking_room : ((t : ℕ) → IsSite t → tally t (events_of xs) ≤ of_site old t) → 1 ≤ of_site numbers x.stamp.site
    taking_room room =
        let s = x.stamp.site in
        omega (
          arith,
          h.left s is_site,
          room s is_site,
          next_entry (tally s) xs place x inside read,
          tally_mine
              (event_of x) (events_of (drop (place + 1) xs)),
        )

    pub taking_more : 1 ≤ of_site numbers x.stamp.site → (new : List ℕ)
        → new ≡ put_at numbers x.stamp.site (of_site numbers x.stamp.site - 1) → TakingOff xs old new (place + 1)
    taking_more some new is = record {
      sized = ap (λ (l : List ℕ). length l) is ∙ put_sized numbers x.stamp.site _ h.sized;
      left = λ t site. by t site (t == x.stamp.site) refl;
    }
      where
        by : (t : ℕ) → IsSite t → (b : Bool) → (t == x.stamp.site) ≡ b
            → of_site new t + tally t (events_of xs) ≡ of_site old t + tally t (events_of (drop (place + 1) xs))
        by t site true same =
            let s = x.stamp.site in
            let here : of_site new s + tally s (events_of xs)
            ≡ of_site old s + tally s (events_of (drop (place + 1) xs))
            = omega (
              arith,
              h.left s is_site,
              ap (λ (l : List ℕ). of_site l s) is,
              put_same numbers s
                  (of_site numbers s - 1) h.sized is_site,
              next_entry (tally s) xs place x inside read,
              tally_mine
                  (event_of x) (events_of (drop (place + 1) xs)),
            ) in
            subst (λ (u : ℕ). of_site new u + tally u (events_of xs)
            ≡ of_site old u + tally u (events_of (drop (place + 1) xs))) (sym (eqb-true t s same)) here
        by t site false other =
            let s = x.stamp.site in
            let apart = eqb-false t s other in
            omega (
              arith,
              h.left t site,
              ap (λ (l : List ℕ). of_site l t) is,
              put_other numbers s
                  (of_site numbers s - 1) t is_site site apart,
              next_entry (tally t) xs place x inside read,
              tally_other t
                  (event_of x) (events_of (drop (place + 1) xs)) apart,
            )

-- ---- numbering the entries

pub record Counting (xs : Entries) (start numbers : List ℕ) (place : ℕ) (events : List Event) : Type 0 where
  pub room : (t : ℕ) → IsSite t → of_site numbers t + tally t (events_of (drop place xs)) < 2 ^ 16
  pub so_far : events ++ numbered numbers (events_of (drop place xs)) ≡ numbered start (events_of xs)

pub counting_start : (xs : Entries) (start : List ℕ)
    → ((t : ℕ) → IsSite t → of_site start t + tally t (events_of xs) < 2 ^ 16) → Counting xs start start 0 []
counting_start xs start room = record { room = room; so_far = refl }

module _ (xs : Entries) (start numbers : List ℕ) (place : ℕ) (events : List Event)
    (h : Counting xs start numbers place events) where
  pub counting_end : length xs ≤ place → events ≡ numbered start (events_of xs)
  unfolding numbered
  counting_end out = sym (append-nil events) ∙ sym (none_left (λ l. events ++ numbered numbers l) xs place out)
      ∙ h.so_far

  module _ (x : EntryValue Op Before) (inside : place < length xs) (read : x ≡ get_or xs place x)
      (is_site : IsSite x.stamp.site) where
    -- its number fits
    pub counting_room : of_site numbers x.stamp.site + 1 < 2 ^ 16
    counting_room =
        let s = x.stamp.site in
        omega (
          arith,
          h.room s is_site,
          next_entry (tally s) xs place x inside read,
          tally_mine (event_of x)
              (events_of (drop (place + 1) xs)),
        )

    pub counting_more : length numbers ≡ SITES → (new : List ℕ)
        → new ≡ put_at numbers x.stamp.site (of_site numbers x.stamp.site + 1) → (more : List Event)
        → more ≡ events ++ record { stamp = x.stamp; number = of_site numbers x.stamp.site + 1; op = x.op } ∷ []
        → Counting xs start new (place + 1) more
    unfolding numbered
    counting_more sized new is more pushed = record {
      room = λ t site. by t site (t == x.stamp.site) refl;
      so_far = told;
    }
      where
        by : (t : ℕ) → IsSite t → (b : Bool) → (t == x.stamp.site) ≡ b
            → of_site new t + tally t (events_of (drop (place + 1) xs)) < 2 ^ 16
        by t site true same =
            let s = x.stamp.site in
            let here : of_site new s + tally s (events_of (drop (place + 1) xs)) < 2 ^ 16
            = omega (
              arith,
              h.room s is_site,
              ap (λ (l : List ℕ). of_site l s) is,
              put_same numbers s
                  (of_site numbers s + 1) sized is_site,
              next_entry (tally s) xs place x inside read,
              tally_mine
                  (event_of x) (events_of (drop (place + 1) xs)),
            ) in
            subst (λ (u : ℕ). of_site new u + tally u (events_of (drop (place + 1) xs)) < 2 ^ 16)
            (sym (eqb-true t s same)) here
        by t site false other =
            let s = x.stamp.site in
            let apart = eqb-false t s other in
            omega (
              arith,
              h.room t site,
              ap (λ (l : List ℕ). of_site l t) is,
              put_other numbers s
                  (of_site numbers s + 1) t is_site site apart,
              next_entry (tally t) xs place x inside read,
              tally_other t
                  (event_of x) (events_of (drop (place + 1) xs)) apart,
            )

        event : Event
        event = record { stamp = x.stamp; number = of_site numbers x.stamp.site + 1; op = x.op }

        told : more ++ numbered new (events_of (drop (place + 1) xs)) ≡ numbered start (events_of xs)
        told =
            ap (λ (l : List Event). l ++ numbered new (events_of (drop (place + 1) xs))) pushed
            ∙ append_snoc events event (numbered new (events_of (drop (place + 1) xs)))
            ∙ ap (λ (ns : List ℕ). events ++ event ∷ numbered ns (events_of (drop (place + 1) xs))) is
            ∙ sym (next_entry (λ l. events ++ numbered numbers l) xs place x inside read) ∙ h.so_far
