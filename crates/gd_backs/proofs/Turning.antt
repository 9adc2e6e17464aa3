-- Undos and redos lead along the boards of the gestures.
use Rattle.std.proofs.Common.{◌≡◌, ℕ, zero, suc, ◌+◌, ◌-◌, ◌≤◌, Bool, true, false, cond, List, [], ◌∷◌, ◌++◌, length}
use Rattle.std.proofs.Common.{Option, None, Some, Ok, Err, refl, sym, ap, ◌∙◌, subst, arith}
use Rattle.std.specs.Prelude.{take, drop, replicate, is_ok, nat_lt}
use Rattle.gd_base.specs.Stamps.{Stamp}
use Rattle.gd_base.specs.declared.ranges.TheConstants.{MOST_BACKS}
use Rattle.gd_base.specs.declared.refusal.EditRefusal.TheVariants.{ClockEnd, SessionFull}
use Rattle.gd_drawing.proofs.InOrder.{stacking}
use Rattle.gd_events.specs.Events.{Event}
use Rattle.gd_events.specs.Ops.{Op}
use Rattle.gd_lines.specs.declared.command.Turn.{Turn}
use Rattle.gd_lines.specs.declared.command.Turn.TheVariants.{Undo, Redo}
use Rattle.gd_model.specs.Board.{Board, apply, board, listed}
use Rattle.gd_model.specs.Drawing.{picture}
use Rattle.gd_reference.specs.Backs.{Backs, due, kept, with_gesture, with_turn}
use Rattle.gd_reference.specs.DrawingText.{text}
use Rattle.gd_reference.specs.Judging.{greatest_stamp_clock, most_own_events, with_event}
use Rattle.gd_reference.specs.SlowSite.{SlowSite, clock, own}
use Rattle.gd_reference.specs.TakeBack.{Asked, BackRefusal, NothingBack, Refused, after_gesture, after_turn, back_of}
use Rattle.gd_reference.specs.TakeBack.{backs_of, done, made, turn, turn_by, with_events, with_made, with_turned}
use Rattle.gd_backs.specs.Turns.{are_some, gestures, turns, done_after, IsMet}
use Rattle.gd_backs.proofs.NextEvents.{AreOwn, accepted_as, made-own, next-board, next_of, turn-becomes}
use Rattle.gd_backs.proofs.Traces.{no_trace}

-- ---- operations that lead along boards

-- the operations, one after another and at any stamps, lead from b to c
abbrev Leads : Board → List Op → Board → Type 0
Leads b [] c = b ≡ c
Leads b (op ∷ ops) c = (s : Stamp) → Leads (apply s op b) ops c

leads-append : (a b c : Board) (xs ys : List Op) → Leads a xs b → Leads b ys c → Leads a (xs ++ ys) c
leads-append a b c [] ys p q = subst (λ d. Leads d ys c) (sym p) q
leads-append a b c (x ∷ xs) ys p q = λ s. leads-append (apply s x a) b c xs ys (p s) q

-- from the board with own events, what takes them back leads back: the last one first
leads-back : (slow : SlowSite) (es : List Event) → AreOwn slow es
    → Leads (board (with_events slow es).held) (backs_of slow es) (board slow.held)
unfolding with_events backs_of
leads-back slow [] own = refl
leads-back slow (e ∷ es) own =
    let next = with_event slow e in
    leads-append (board (with_events next es).held) (board next.held) (board slow.held) (backs_of next es)
    (back_of slow e ∷ []) (leads-back next es own.1)
    (λ s. ap (apply s (back_of slow e)) (next-board slow e.op e own.0.next) ∙ no_trace e.stamp s e.op (board slow.held))

-- operations that lead on do so as events
done-leads : (slow : SlowSite) (ops : List Op) (c : Board) → AreOwn slow (done slow ops) → Leads (board slow.held) ops c
    → board (with_events slow (done slow ops)).held ≡ c
unfolding with_events done
done-leads slow [] c own h = h
done-leads slow (op ∷ ops) c own h =
    let e = next_of slow op in
    done-leads (with_event slow e) ops c own.1
    (subst (λ b. Leads b ops c) (sym (next-board slow op e own.0.next)) (h e.stamp))

-- these gestures lead from b to each of these boards, one after another
abbrev LeadTo : Board → List Board → List (List Op) → Type 0
LeadTo b [] all = Unit {0}
LeadTo b (c ∷ cs) [] = ⊥
LeadTo b (c ∷ cs) (ops ∷ all) = Leads b ops c × LeadTo c cs all

lead-take : (n : ℕ) (b : Board) (cs : List Board) (all : List (List Op)) → length cs ≤ n → LeadTo b cs all
    → LeadTo b cs (take n all)
lead-take n b [] all l h = tt
lead-take n b (c ∷ cs) [] l h = absurd h
lead-take zero b (c ∷ cs) (ops ∷ all) l h = absurd (omega (arith, l))
lead-take (suc n) b (c ∷ cs) (ops ∷ all) l h = (h.0, lead-take n c cs all (omega (arith, l)) h.1)

-- what leads from c to b, and then those that lead on from there
lead-kept : (b c : Board) (back : List Op) (cs : List Board) (all : List (List Op)) → suc (length cs) ≤ MOST_BACKS
    → Leads c back b → LeadTo b cs all → LeadTo c (b ∷ cs) (kept back all)
lead-kept b c back cs all l first h = lead-take MOST_BACKS c (b ∷ cs) (back ∷ all) l (first, h)

-- a gesture of at least one event is kept
gesture_kept : (ops : List Op) (last : Op) (backs : Backs)
    → with_gesture (ops ++ last ∷ []) backs ≡ record { undos = kept (ops ++ last ∷ []) backs.undos; redos = [] }
gesture_kept [] last backs = refl
gesture_kept (op ∷ ops) last backs = refl

-- ---- a site between its boards, by the number of gestures that are done

module _ (at : ℕ → Board) where
  abbrev pasts : ℕ → List Board
  pasts zero = []
  pasts (suc n) = at n ∷ pasts n

  abbrev futures : ℕ → ℕ → List Board
  futures n zero = []
  futures n (suc m) = at (suc n) ∷ futures (suc n) m

  pasts-length : (n : ℕ) → length (pasts n) ≡ n
  pasts-length zero = refl
  pasts-length (suc n) = ap suc (pasts-length n)

  futures-length : (n m : ℕ) → length (futures n m) ≡ m
  futures-length n zero = refl
  futures-length n (suc m) = ap suc (futures-length (suc n) m)

  -- n gestures are done, and m are taken back
  record IsAt (n m : ℕ) (slow : SlowSite) : Type 0 where
    shows : board slow.held ≡ at n
    down : LeadTo (at n) (pasts n) slow.backs.undos
    up : LeadTo (at n) (futures n m) slow.backs.redos

  -- behind these events the board is c, and what takes them back leads back to b
  record Steps (slow : SlowSite) (es : List Event) (b c : Board) (behind : List Board) (all : List (List Op)) : Type 0
    where
      shows : board (with_events slow es).held ≡ c
      back : LeadTo c (b ∷ behind) (kept (backs_of slow es) all)

  steps : (slow : SlowSite) (es : List Event) (b c : Board) (behind : List Board) (all : List (List Op))
      → AreOwn slow es → suc (length behind) ≤ MOST_BACKS → board slow.held ≡ b
      → board (with_events slow es).held ≡ c → LeadTo b behind all → Steps slow es b c behind all
  steps slow es b c behind all own few here there h =
      let back = subst (λ d. Leads d (backs_of slow es) b) there
      (subst (λ d. Leads (board (with_events slow es).held) (backs_of slow es) d) here (leads-back slow es own)) in
      record { shows = there; back = lead-kept b c (backs_of slow es) behind all few back h }

  -- what an undo, or a redo, leads to: what is due then leads on, and its own back is kept among the others
  turned : (slow : SlowSite) (which : Turn) (b c : Board) (ahead behind : List Board) (others : List (List Op))
      → is_ok (turn slow which) ≡ true → suc (length behind) ≤ MOST_BACKS → board slow.held ≡ b
      → LeadTo b (c ∷ ahead) (due which slow.backs) → LeadTo b behind others → (P : SlowSite → Type 0)
      → ((es : List Event) → Steps slow es b c behind others → LeadTo c ahead (drop 1 (due which slow.backs))
      → P (with_made slow es (with_turn which))) → P (after_turn slow which)
  unfolding after_turn
  turned slow which b c ahead behind others ok few here forth h P made =
      let accepted = accepted_as (turn slow which) ok in
      let es = accepted.0 in
      let t = turn-becomes slow which es accepted.1 in
      let leads = subst (LeadTo b (c ∷ ahead)) t.first forth in
      let own = subst (AreOwn slow) (sym t.are) t.own in
      let there = done-leads slow t.ops c own (subst (λ d. Leads d t.ops c) (sym here) leads.0) in
      let shows = subst (λ l. board (with_events slow l).held ≡ c) t.are there in
      subst (λ r. P (with_turned slow which r)) (sym accepted.1)
      (made es (steps slow es b c behind others t.own few here shows h)
      (subst (λ all. LeadTo c ahead (drop 1 all)) (sym t.first) leads.1))

  undo_step : (n m : ℕ) (slow : SlowSite) → suc n + m ≤ MOST_BACKS → is_ok (turn slow Undo) ≡ true
      → IsAt (suc n) m slow → IsAt n (suc m) (after_turn slow Undo)
  undo_step n m slow few ok h =
      turned slow Undo (at (suc n)) (at n) (pasts n) (futures (suc n) m) slow.backs.redos ok
      (omega (arith, few, futures-length (suc n) m)) h.shows h.down h.up (IsAt n (suc m))
      (λ es s on. record { shows = s.shows; down = on; up = s.back })

  redo_step : (n m : ℕ) (slow : SlowSite) → suc n + m ≤ MOST_BACKS → is_ok (turn slow Redo) ≡ true
      → IsAt n (suc m) slow → IsAt (suc n) m (after_turn slow Redo)
  redo_step n m slow few ok h =
      turned slow Redo (at n) (at (suc n)) (futures (suc n) m) (pasts n) slow.backs.undos ok
      (omega (arith, few, pasts-length n)) h.shows h.up h.down (IsAt (suc n) m)
      (λ es s on. record { shows = s.shows; down = s.back; up = on })

  -- behind a gesture of at least one event
  made_step : (n : ℕ) (slow : SlowSite) (es : List Event) → suc n ≤ MOST_BACKS → are_some es ≡ true → AreOwn slow es
      → board (with_events slow es).held ≡ at (suc n) → IsAt n 0 slow → IsAt (suc n) 0 (with_made slow es with_gesture)
  unfolding backs_of
  made_step n slow [] few some own shows h = cc
  made_step n slow (e ∷ es) few some own shows h =
      let s = steps slow (e ∷ es) (at n) (at (suc n)) (pasts n) slow.backs.undos own
      (omega (arith, few, pasts-length n))
      h.shows shows h.down in
      subst (λ backs. IsAt (suc n) 0 (record (with_events slow (e ∷ es)) { backs = backs }))
      (sym (gesture_kept (backs_of (with_event slow e) es) (back_of slow e) slow.backs))
      (record { shows = s.shows; down = s.back; up = tt })

  gesture_step : (n : ℕ) (slow : SlowSite) (asked : List Asked) → suc n ≤ MOST_BACKS
      → are_some (made slow asked) ≡ true → board (after_gesture slow asked).held ≡ at (suc n) → IsAt n 0 slow
      → IsAt (suc n) 0 (after_gesture slow asked)
  unfolding after_gesture
  gesture_step n slow asked few some shows h =
      made_step n slow (made slow asked) few some (made-own slow asked) shows h

-- ---- gestures in a row, and turns in a row

-- the site after the first so many gestures
abbrev site_after : ℕ → SlowSite → List (List Asked) → SlowSite
site_after zero slow wanted = slow
site_after (suc n) slow [] = slow
site_after (suc n) slow (w ∷ ws) = site_after n (after_gesture slow w) ws

-- where a test passes, and what is behind it comes to something
passes : (b : Bool) (x : Option SlowSite) (u : SlowSite) → cond b x None ≡ Some u → (b ≡ true) × (x ≡ Some u)
passes true x u e = (refl, e)
passes false x u e = cc

gestures_take : (n : ℕ) (wanted : List (List Asked)) (t u : SlowSite) → gestures t wanted ≡ Some u
    → gestures t (take n wanted) ≡ Some (site_after n t wanted)
unfolding gestures
gestures_take zero [] t u e = refl
gestures_take zero (w ∷ ws) t u e = refl
gestures_take (suc n) [] t u e = refl
gestures_take (suc n) (w ∷ ws) t u e =
    let parts = passes (are_some (made t w)) (gestures (after_gesture t w) ws) u e in
    rw (parts.0) (gestures_take n ws (after_gesture t w) u parts.1)

module _ (at : ℕ → Board) where
  gestures_done : (wanted : List (List Asked)) (n k : ℕ) (t u : SlowSite) → n + length wanted ≡ k → k ≤ MOST_BACKS
      → ((i : ℕ) → board (site_after i t wanted).held ≡ at (n + i)) → gestures t wanted ≡ Some u → IsAt at n 0 t
      → IsAt at k 0 u
  unfolding gestures
  gestures_done [] n k t u s l shown e h =
      let same : t ≡ u = cc in
      let many : n ≡ k = omega (arith, s) in
      subst (λ i. IsAt at i 0 u) many (subst (IsAt at n 0) same h)
  gestures_done (w ∷ ws) n k t u s l shown e h =
      let parts = passes (are_some (made t w)) (gestures (after_gesture t w) ws) u e in
      let next : n + 1 ≡ suc n = omega arith in
      gestures_done ws (suc n) k (after_gesture t w) u (omega (arith, s)) l (λ i. shown (suc i) ∙ ap at (omega arith))
      parts.1
      (gesture_step at n t w (omega (arith, s, l)) parts.0 (shown 1 ∙ ap at next) h)

  -- where the turns end
  record Ends (k total : ℕ) (v : SlowSite) : Type 0 where
    back : ℕ
    all : total ≡ k + back
    is : IsAt at k back v

  turns_done : (row : List Turn) (n m k total : ℕ) (u v : SlowSite) → n + m ≡ total → total ≤ MOST_BACKS
      → turns u row ≡ Some v → done_after row n m ≡ Some k → IsAt at n m u → Ends k total v
  unfolding turns
  turns_done [] n m k total u v s l e d h =
      let same : u ≡ v = cc in
      let done : n ≡ k = cc in
      let is = subst (λ i. IsAt at i m v) done (subst (IsAt at n m) same h) in
      record { back = m; all = omega (arith, s, done); is = is }
  turns_done (Undo ∷ row) zero m k total u v s l e d h = cc
  turns_done (Undo ∷ row) (suc n) m k total u v s l e d h =
      let parts = passes (is_ok (turn u Undo)) (turns (after_turn u Undo) row) v e in
      turns_done row n (suc m) k total (after_turn u Undo) v (omega (arith, s)) l parts.1 d
      (undo_step at n m u (omega (arith, s, l)) parts.0 h)
  turns_done (Redo ∷ row) n zero k total u v s l e d h = cc
  turns_done (Redo ∷ row) n (suc m) k total u v s l e d h =
      let parts = passes (is_ok (turn u Redo)) (turns (after_turn u Redo) row) v e in
      turns_done row (suc n) m k total (after_turn u Redo) v (omega (arith, s)) l parts.1 d
      (redo_step at n m u (omega (arith, s, l)) parts.0 h)

-- the board after the first so many of these gestures
abbrev boards : SlowSite → List (List Asked) → ℕ → Board
boards t wanted n = board (site_after n t wanted).held

ended : (t u v : SlowSite) (wanted : List (List Asked)) (row : List Turn) (k : ℕ) → gestures t wanted ≡ Some u
    → length wanted ≤ MOST_BACKS → turns u row ≡ Some v → done_after row (length wanted) 0 ≡ Some k
    → Ends (boards t wanted) k (length wanted) v
ended t u v wanted row k e few turned done =
    let at = boards t wanted in
    turns_done at row (length wanted) 0 k (length wanted) u v (omega arith) few turned done
    (gestures_done at wanted 0 (length wanted) t u (omega arith) few (λ i. ap at (omega arith)) e
    (record { shows = refl; down = tt; up = tt }))

-- ---- what is shown

pub shown_again : (t u v : SlowSite) (wanted : List (List Asked)) (row : List Turn) (n : ℕ) → gestures t wanted ≡ Some u
    → length wanted ≤ MOST_BACKS → turns u row ≡ Some v → done_after row (length wanted) 0 ≡ Some n
    → (w : SlowSite) × (gestures t (take n wanted) ≡ Some w) × (text (picture v.held) ≡ text (picture w.held))
shown_again t u v wanted row n e few turned done =
    let w = site_after n t wanted in
    let end = ended t u v wanted row n e few turned done in
    (w, gestures_take n wanted t u e, ap text (sym (stacking v.held) ∙ ap listed end.is.shows ∙ stacking w.held))

redos_count : (i n m : ℕ) → i ≤ m → done_after (replicate i Redo) n m ≡ Some (n + i)
redos_count zero n m l = ap Some (omega arith)
redos_count (suc i) n zero l = absurd (omega (arith, l))
redos_count (suc i) n (suc m) l = redos_count i (suc n) m (omega (arith, l)) ∙ ap Some (omega arith)

undos_count : (j i n m : ℕ) → j ≤ n → i ≤ j + m
    → done_after (replicate j Undo ++ replicate i Redo) n m ≡ Some ((n - j) + i)
undos_count zero i n m l k = redos_count i n m (omega (arith, k)) ∙ ap Some (omega arith)
undos_count (suc j) i zero m l k = absurd (omega (arith, l))
undos_count (suc j) i (suc n) m l k =
    undos_count j i n (suc m) (omega (arith, l)) (omega (arith, k)) ∙ ap Some (omega arith)

pub in_a_row : (k j i : ℕ) → j ≤ k → i ≤ j → done_after (replicate j Undo ++ replicate i Redo) k 0 ≡ Some ((k - j) + i)
in_a_row k j i l h = undos_count j i k 0 l (omega (arith, h))

-- ---- refusals

none_due : (slow : SlowSite) (all : List (List Op)) → turn_by slow all ≡ Err NothingBack → all ≡ []
none_due slow [] e = refl
none_due slow (ops ∷ more) e =
    by (nat_lt greatest_stamp_clock (clock slow + length ops)) (nat_lt most_own_events (length (own slow) + length ops))
    e
  where
    by : (a b : Bool) → cond a (Err (Refused ClockEnd)) (cond b (Err (Refused SessionFull)) (Ok (done slow ops)))
        ≡ Err NothingBack
        → ops ∷ more ≡ []
    by true b k = cc
    by false true k = cc
    by false false k = cc

-- where a gesture is done there is one to take back, and where one is taken back there is one to do again
pub something_to_do : (t u v : SlowSite) (wanted : List (List Asked)) (row : List Turn) (k j : ℕ)
    → gestures t wanted ≡ Some u → length wanted ≤ MOST_BACKS → turns u row ≡ Some v
    → done_after row (length wanted) 0 ≡ Some k → length wanted ≡ k + j
    → (turn v Undo ≡ Err NothingBack → k ≡ 0) × (turn v Redo ≡ Err NothingBack → j ≡ 0)
unfolding turn
something_to_do t u v wanted row k j e few turned done s =
    let end = ended t u v wanted row k e few turned done in
    let same : end.back ≡ j = omega (arith, end.all, s) in (
      λ none. down k (subst (LeadTo (at k) (pasts at k)) (none_due v _ none) end.is.down),
      λ none. sym same ∙ up end.back (subst (LeadTo (at k) (futures at k end.back)) (none_due v _ none) end.is.up),
    )
  where
    at : ℕ → Board
    at = boards t wanted

    down : (n : ℕ) → LeadTo (at n) (pasts at n) [] → n ≡ 0
    down zero h = refl
    down (suc n) h = absurd h

    up : (m : ℕ) → LeadTo (at k) (futures at k m) [] → m ≡ 0
    up zero h = refl
    up (suc m) h = absurd h

pub is_met : (slow : SlowSite) (which : Turn) (why : BackRefusal) → turn slow which ≡ Err why → IsMet why
unfolding turn
is_met slow which why e = by (due which slow.backs) e
  where
    refused : (ops : List Op) (a b : Bool)
        → cond a (Err (Refused ClockEnd)) (cond b (Err (Refused SessionFull)) (Ok (done slow ops))) ≡ Err why
        → IsMet why
    refused ops true b k = let same : Refused ClockEnd ≡ why = cc in subst IsMet same tt
    refused ops false true k = let same : Refused SessionFull ≡ why = cc in subst IsMet same tt
    refused ops false false k = cc

    by : (all : List (List Op)) → turn_by slow all ≡ Err why → IsMet why
    by [] k = let same : NothingBack ≡ why = cc in subst IsMet same tt
    by (ops ∷ more) k =
        refused ops (nat_lt greatest_stamp_clock (clock slow + length ops))
        (nat_lt most_own_events (length (own slow) + length ops)) k
