-- A churn ends with every site holding every event, and so with all showing the same: its draws come to steps of a
-- world, its rounds to rounds of passages.
use Rattle.std.proofs.Common.{◌≡◌, ℕ, zero, suc, ◌+◌, ◌<◌, ◌≤◌, Bool, true, not, ◌&&◌, List, [], ◌∷◌, ◌++◌, length, map}
use Rattle.std.proofs.Common.{fold, Option, Some, None, Ok, bytes_eq, slice_get, refl, sym, ap, ◌∙◌, subst}
use Rattle.std.proofs.Common.{length-append, arith, eqb-true, eq-eqb, ◌==◌}
use Rattle.std.specs.List.{concat, list_all}
use Rattle.std.proofs.lemmas.Bool.{and_parts, cond_both}
use Rattle.std.proofs.lemmas.List.{append_assoc}
use Rattle.std.proofs.lemmas.Slice.Eq.{bytes_eq-Decides}
use Rattle.gd_base.proofs.SiteLemmas.{is_site-bounds}
use Rattle.gd_base.specs.Sites.{is_site}
use Rattle.gd_effects.specs.Effects.{Effect}
use Rattle.gd_events.specs.Events.{Event}
use Rattle.gd_grammar.specs.FrameBytes.{Frame}
use Rattle.gd_lines.specs.declared.command.ScriptLine.{ScriptLine}
use Rattle.gd_lines.specs.declared.command.ScriptLine.TheVariants as script
use Rattle.gd_lines.specs.declared.reply.Reply.TheVariants as reply
use Rattle.gd_model.specs.Drawing.{picture}
use Rattle.gd_protocol.proofs.HeldByAll.{all_counted, counted_all, held_agree, held_passed, kept_passed}
use Rattle.gd_protocol.proofs.Interleavings.{kept_after}
use Rattle.gd_protocol.proofs.Rounds.{rounds_bring_all}
use Rattle.gd_protocol.proofs.Runs.{Kept-start, sites-after}
use Rattle.gd_protocol.specs.Kept.{Kept}
use Rattle.gd_protocol.specs.Passages.{AllAgree, AllHoldAll, Passage, all_passed, between, rounds}
use Rattle.gd_protocol.specs.Passages as protocol
use Rattle.gd_reference.specs.DrawingText.{text}
use Rattle.gd_reference.specs.Offers.{frame_for}
use Rattle.gd_reference.specs.Said.{all_said, says}
use Rattle.gd_reference.specs.SlowSite.{count, own}
use Rattle.gd_reference.specs.Tally.{tally_reply}
use Rattle.gd_reference.specs.World.{At, Deliver, Send, Step, World, after, after_from, delivered, happens, start}
use Rattle.gd_reference.specs.World.{with_site}
use Rattle.gd_worlds.specs.Churn.{Churning, all_hold_all, churn_effects, churn_sites, churned, holds_all_of, is_same}
use Rattle.gd_worlds.specs.Churn.{new_churning, passages, rounded, rounds_to_all, stepped, times, with_drawn, with_line}
use Rattle.gd_worlds.specs.Churn as churn
use Rattle.gd_worlds.specs.Rehearsal.{after_script, may_send, told_by}

-- ---- what is drawn comes to at most one step of a world

-- at most so many steps lead from the one world to the other
record Leads (most : ℕ) (before behind : World) : Type 0 where
  steps : List Step
  few : length steps ≤ most
  is : behind ≡ after_from before steps

leads_line : (c : Churning) (line : ScriptLine) → Leads 1 c.world (with_line c line).world
unfolding with_line after_from
leads_line c (script.At site asked) = record { steps = At site (told_by asked) ∷ []; few = omega arith; is = refl }
leads_line c (script.Send from to) = record { steps = Send from to ∷ []; few = omega arith; is = refl }
leads_line c (script.Deliver zero) = record { steps = []; few = omega arith; is = refl }
leads_line c (script.Deliver (suc mail)) = record { steps = Deliver mail ∷ []; few = omega arith; is = refl }
leads_line c script.Blank = record { steps = []; few = omega arith; is = refl }
leads_line c script.Quit = record { steps = []; few = omega arith; is = refl }

leads_drawn : (c : Churning) (drawn : Option ScriptLine) → Leads 1 c.world (with_drawn c drawn).world
unfolding after_from
leads_drawn c None = record { steps = []; few = omega arith; is = refl }
leads_drawn c (Some line) = leads_line c line

after_from-append : (w : World) (xs ys : List Step) → after_from w (xs ++ ys) ≡ after_from (after_from w xs) ys
unfolding after_from
after_from-append w [] ys = refl
after_from-append w (x ∷ xs) ys = after_from-append (happens w x) xs ys

leads_on : (n : ℕ) (a b c : World) → Leads 1 a b → Leads n b c → Leads (suc n) a c
leads_on n a b c p q = record {
  steps = p.steps ++ q.steps;
  few = omega (arith, p.few, q.few, length-append p.steps q.steps);
  is = q.is ∙ ap (λ (w : World). after_from w q.steps) p.is ∙ sym (after_from-append a p.steps q.steps);
}

leads_stepped : (c : Churning) → Leads 1 c.world (stepped c).world
leads_stepped c =
    let drawn = churn.step c.made (length c.world.mail) c.generator in
    leads_drawn (record c { generator = drawn.1 }) drawn.0

leads_steps : (n : ℕ) (c : Churning) → Leads n c.world (times n stepped c).world
unfolding times after_from
leads_steps zero c = record { steps = []; few = omega arith; is = refl }
leads_steps (suc n) c
    = leads_on n c.world (stepped c).world (times n stepped (stepped c)).world (leads_stepped c)
    (leads_steps n (stepped c))

-- ---- the number of sites stays

sites_delivered : (w : World) (mail : Option Frame) → (delivered w mail).sites ≡ w.sites
unfolding with_site
sites_delivered w None = refl
sites_delivered w (Some f) = refl

sites_sent : (w : World) (from to : ℕ) → (happens w (Send from to)).sites ≡ w.sites
unfolding happens
sites_sent w from to = cond_both (may_send w from to) _ w (λ (v : World). v.sites ≡ w.sites) (λ sends. refl)
    (λ other. refl)

sites_passed : (w : World) (p : Passage) → (protocol.passed w p).sites ≡ w.sites
unfolding protocol.passed happens
sites_passed w p =
    let sent = happens w (Send p.from p.to) in
    sites_delivered sent (slice_get sent.mail (length w.mail)) ∙ sites_sent w p.from p.to

sites_all_passed : (w : World) (ps : List Passage) → (all_passed w ps).sites ≡ w.sites
unfolding all_passed
sites_all_passed w [] = refl
sites_all_passed w (p ∷ ps) = sites_all_passed (protocol.passed w p) ps ∙ sites_passed w p

sites_after : (steps : List Step) → (after 4 1 steps).sites ≡ 4
sites_after steps = sites-after (start 4 1) (Kept-start 4 1) steps

-- ---- a round of a churn is a round of passages

abbrev passage : ℕ × ℕ → Passage
passage p = between p.0 p.1

-- two of four sites, and not one and the same
abbrev are_apart : ℕ × ℕ → Bool
are_apart p = is_site 4 p.0 && is_site 4 p.1 && not (p.0 == p.1)

-- what is sent is the last mail
mail_sent : (w : World) (from to : ℕ) → may_send w from to ≡ true
    → length (happens w (Send from to)).mail ≡ suc (length w.mail)
unfolding happens
mail_sent w from to sends = rw sends (omega (arith, length-append w.mail (frame_for (w.at from) to ∷ [])))

world_passed : (c : Churning) (p : ℕ × ℕ) → c.world.sites ≡ 4 → are_apart p ≡ true
    → (churn.passed c p).world ≡ protocol.passed c.world (passage p)
unfolding protocol.passed with_line
world_passed c p four apart =
    let sent = happens c.world (Send p.0 p.1) in
    ap (λ (number : ℕ). after_script sent (Ok (script.Deliver number)))
    (mail_sent c.world p.0 p.1
    (subst (λ (n : ℕ). (is_site n p.0 && is_site n p.1 && not (p.0 == p.1)) ≡ true) (sym four) apart))

world_all_passed : (ps : List (ℕ × ℕ)) (c : Churning) → c.world.sites ≡ 4 → list_all are_apart ps ≡ true
    → (fold churn.passed c ps).world ≡ all_passed c.world (map passage ps)
unfolding all_passed
world_all_passed [] c four apart = refl
world_all_passed (p ∷ ps) c four apart =
    let parts = and_parts (are_apart p) (list_all are_apart ps) apart in
    let one = world_passed c p four parts.0 in
    let sites = ap (λ (w : World). w.sites) one ∙ sites_passed c.world (passage p) ∙ four in
    world_all_passed ps (churn.passed c p) sites parts.1 ∙ ap (λ (w : World). all_passed w (map passage ps)) one

-- what a world of a churn keeps
record IsFour (w : World) : Type 0 where
  kept : Kept w
  four : w.sites ≡ 4

abbrev round : List Passage
round = map passage passages

round_is : (c : Churning) → c.world.sites ≡ 4 → (rounded c).world ≡ all_passed c.world round
round_is c four = world_all_passed passages c four refl

passed_four : (w : World) → IsFour w → IsFour (all_passed w round)
passed_four w is = record { kept = kept_passed w is.kept round; four = sites_all_passed w round ∙ is.four }

rounded_four : (c : Churning) → IsFour c.world → IsFour (rounded c).world
rounded_four c is = subst IsFour (sym (round_is c is.four)) (passed_four c.world is)

-- ---- a test of all four sites

each_of_four : (test : ℕ → Bool) → test 1 ≡ true → test 2 ≡ true → test 3 ≡ true → test 4 ≡ true → (s : ℕ) → 0 < s
    → s ≤ 4 → test s ≡ true
each_of_four test one two three four zero low high = absurd (omega (arith, low))
each_of_four test one two three four (suc zero) low high = one
each_of_four test one two three four (suc (suc zero)) low high = two
each_of_four test one two three four (suc (suc (suc zero))) low high = three
each_of_four test one two three four (suc (suc (suc (suc zero)))) low high = four
each_of_four test one two three four (suc (suc (suc (suc (suc s))))) low high = absurd (omega (arith, high))

each_passes : (test : ℕ → Bool) → list_all test churn_sites ≡ true → (s : ℕ) → is_site 4 s ≡ true → test s ≡ true
each_passes test all s inside =
    let bounds = is_site-bounds 4 s inside in
    let first = and_parts (test 1) (test 2 && (test 3 && (test 4 && true))) all in
    let second = and_parts (test 2) (test 3 && (test 4 && true)) first.1 in
    let third = and_parts (test 3) (test 4 && true) second.1 in
    each_of_four test first.0 second.0 third.0 (and_parts (test 4) true third.1).0 s bounds.0 bounds.1

all_pass : (test : ℕ → Bool) → ((s : ℕ) → is_site 4 s ≡ true → test s ≡ true) → list_all test churn_sites ≡ true
all_pass test each = rw (each 1 refl, each 2 refl, each 3 refl, each 4 refl) refl

-- ---- a site that holds as many events as were made holds them all

module _ (w : World) (is : IsFour w) where
  inside : (s : ℕ) → is_site 4 s ≡ true → is_site w.sites s ≡ true
  inside s s_in = subst (λ (n : ℕ). is_site n s ≡ true) (sym is.four) s_in

  among : (s : ℕ) → is_site w.sites s ≡ true → is_site 4 s ≡ true
  among s s_in = subst (λ (n : ℕ). is_site n s ≡ true) is.four s_in

  held_by_test : all_hold_all w ≡ true → AllHoldAll w
  held_by_test held =
      counted_all w is.kept
      (λ s t s_in t_in.
      let of_one = each_passes (λ u. list_all (holds_all_of w u) churn_sites) held t (among t t_in) in
      eqb-true (count (w.at t) s) (length (own (w.at s))) (each_passes (holds_all_of w t) of_one s (among s s_in)))

  test_of_held : AllHoldAll w → all_hold_all w ≡ true
  test_of_held all =
      let counts = all_counted w is.kept all in
      all_pass (λ t. list_all (holds_all_of w t) churn_sites)
      (λ t t_in. all_pass (holds_all_of w t)
      (λ s s_in. eq-eqb (count (w.at t) s) (length (own (w.at s))) (counts s t (inside s s_in) (inside t t_in))))

-- ---- the rounds go on until every site holds every event

record IsEnd (w : World) : Type 0 where
  is : IsFour w
  held : AllHoldAll w

rounds_end : (most : ℕ) (c : Churning) → IsFour c.world → AllHoldAll (all_passed c.world (rounds most))
    → IsEnd (rounds_to_all most c).world
unfolding rounds_to_all rounds all_passed
rounds_end zero c is all = record { is = is; held = all }
rounds_end (suc most) c is all =
    cond_both (all_hold_all c.world) c (rounds_to_all most (rounded c)) (λ (d : Churning). IsEnd d.world)
    (λ held. record { is = is; held = held_by_test c.world is held })
    (λ other. rounds_end most (rounded c) (rounded_four c is)
    (subst (λ (w : World). AllHoldAll (all_passed w (rounds most))) (sym (round_is c is.four)) all))

-- and one more keeps them
ends : (seed steps : ℕ) → IsEnd (churned seed steps).world
unfolding churned
ends seed steps =
    let led = leads_steps steps (new_churning seed) in
    let c = times steps stepped (new_churning seed) in
    let d = rounds_to_all (4 + steps) c in
    let is : IsFour c.world
    = subst IsFour (sym led.is) (record { kept = kept_after 4 1 led.steps; four = sites_after led.steps }) in
    let all : AllHoldAll (all_passed c.world (rounds (4 + steps))) =
    subst (λ (w : World). AllHoldAll (all_passed w (rounds (4 + steps)))) (sym led.is)
    (rounds_bring_all 1 steps led.steps led.few) in
    let end = rounds_end (4 + steps) c is all in
    subst IsEnd (sym (round_is d end.is.four))
    (record { is = passed_four d.world end.is; held = held_passed d.world end.is.kept end.held round })

pub ends_with_all : (seed steps : ℕ) → all_hold_all (churned seed steps).world ≡ true
ends_with_all seed steps = let end = ends seed steps in test_of_held (churned seed steps).world end.is end.held

-- ---- sites that show the same drawing show the same text

same_text : (xs ys : List Event) → picture xs ≡ picture ys
    → bytes_eq (concat (text (picture xs))) (concat (text (picture ys))) ≡ true
same_text xs ys same = (bytes_eq-Decides (concat (text (picture xs))) (concat (text (picture ys)))).1
    (ap (λ d. concat (text d)) same)

same_for_all : (w : World) → w.sites ≡ 4 → AllAgree w → is_same w ≡ true
same_for_all w four agree =
    let inside : (s : ℕ) → is_site 4 s ≡ true
    → is_site w.sites s ≡ true = λ s is. subst (λ (n : ℕ). is_site n s ≡ true) (sym four) is in
    let same : (s : ℕ) → is_site 4 s ≡ true → bytes_eq (churn.shown_at w 1) (churn.shown_at w s) ≡ true =
    λ s is. same_text (w.at 1).held (w.at s).held (agree 1 s (inside 1 refl) (inside s is)) in
    rw (same 2 refl, same 3 refl, same 4 refl) refl

pub ends_alike : (seed steps : ℕ) → is_same (churned seed steps).world ≡ true
ends_alike seed steps =
    let w = (churned seed steps).world in
    let end = ends seed steps in
    same_for_all w end.is.four (held_agree w end.is.kept end.held)

-- the last line that is printed
pub said_alike : (seed steps : ℕ)
    → (front : List Effect) × (churn_effects seed steps ≡ front ++ says (reply.Same true) ∷ [])
said_alike seed steps =
    let c = churned seed steps in
    let six : List Effect
    = all_said (map (churn.site_reply c.world) churn_sites
    ++ reply.Churned c.counts.edits c.counts.refused c.counts.sent c.counts.delivered c.counts.idle
    ∷ tally_reply c.counts.arrivals ∷ []) in (
      c.work ++ six,
      ap (λ (b : Bool). c.work ++ (six ++ says (reply.Same b) ∷ [])) (ends_alike seed steps)
          ∙ sym (append_assoc c.work six (says (reply.Same true) ∷ [])),
    )
