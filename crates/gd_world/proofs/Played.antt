-- What a churn that was played owes, and how it ends.
use Rattle.std.proofs.Common.{◌≡◌, ℕ, ◌+◌, List, [], ◌∷◌, ◌++◌, map, refl, sym, ◌∙◌, ap, ap₂, subst, arith}
use Rattle.std.proofs.lemmas.List.{map-append}
use Rattle.std.specs.Prelude.{Result, Ok, Err, IfOk, IsErrAnd, ⊤}
use Rattle.std.specs.declared.alloc.AllocError.{AllocError}
use Rattle.gd_answers.specs.Paying.{PaysFront}
use Rattle.gd_effects.proofs.Doing.{cost-works, does_as, does_more, does_some_works, does_works}
use Rattle.gd_effects.proofs.RunEnds.{no_journal, no_read}
use Rattle.gd_effects.specs.Done.{Does}
use Rattle.gd_effects.specs.Effects.{Effect, Work, cost}
use Rattle.gd_effects.specs.Endings.{status_of}
use Rattle.gd_effects.specs.Outside.{outside}
use Rattle.gd_effects.specs.Prints.{PrintsInSteps}
use Rattle.gd_lines.specs.declared.reply.Reply.{Reply}
use Rattle.gd_outside.specs.Seen.{SeenJournal, SeenLink, SeenSink, SeenSource}
use Rattle.gd_outside.specs.declared.end.End.{End}
use Rattle.gd_outside.specs.declared.end.End.TheVariants as early
use Rattle.gd_outside.specs.declared.status.Status.TheVariants.{Done}
use Rattle.gd_worlds.specs.Churn.{Churning, churned, new_churning, rounded, rounds_to_all, stepped, summary, times}
use Rattle.gd_world.proofs.ChurnWork.{Grows, grows_round, grows_step, grows_then, times_grows, to_all_grows}
use Rattle.gd_world.proofs.Following.{pays_whole}
use Rattle.gd_world.specs.Playing.{Plays}
use Rattle.gd_world.specs.Rehearsing.{IsChurnEnd}

-- nothing was paid so far
pub pays_nothing : (before : ℕ) (xs : List Effect) → PaysFront before xs before
pays_nothing before xs = record { front = []; back = xs; split = refl; paid = omega arith }

-- the early end that `?` hands on
pub plays_exit : (c : Churning) (before after : ℕ) (P : AllocError → Type 0) (r : Result (List Reply) AllocError)
    → IsErrAnd r P → PaysFront before c.work after → Plays c r before after
plays_exit c before after P (Ok replies) is h = absurd is
plays_exit c before after P (Err e) is h = h

-- it was played, and then its summary made, or memory ran out
pub plays_end : (c : Churning) (before after : ℕ) (r : Result (List Reply) AllocError)
    → IfOk r (λ replies. replies ≡ summary c.world c.counts) → after ≡ before + cost c.work → Plays c r before after
plays_end c before after (Ok replies) is paid = (is, paid)
plays_end c before after (Err e) is paid = pays_whole c.work paid

pub churned_is : (seed count : ℕ)
    → rounded (rounds_to_all (4 + count) (times count stepped (new_churning seed))) ≡ churned seed count
unfolding churned
churned_is seed count = refl

-- ---- its effects

churned_grows : (seed count : ℕ) → Grows (new_churning seed) (churned seed count)
churned_grows seed count =
    subst (λ (c : Churning). Grows (new_churning seed) c) (churned_is seed count)
    (grows_then (times_grows stepped grows_step count (new_churning seed))
    (grows_then (to_all_grows (4 + count) (times count stepped (new_churning seed)))
    (grows_round (rounds_to_all (4 + count) (times count stepped (new_churning seed))))))

-- all its work is steps
works_of : (seed count : ℕ) → (ns : List ℕ) × ((churned seed count).work ≡ map Work ns)
works_of seed count = let g = churned_grows seed count in (g.works, g.work)

split_works : (ns : List ℕ) (front back : List Effect) → map Work ns ≡ front ++ back
    → (ms : List ℕ) × (ks : List ℕ) × (front ≡ map Work ms) × (back ≡ map Work ks)
split_works ns [] back e = ([], ns, refl, sym e)
split_works [] (x ∷ front) back e = absurd cc
split_works (n ∷ ns) (x ∷ front) back e =
    let rest : map Work ns ≡ front ++ back = cc in
    let first : x ≡ Work n = cc in
    let r = split_works ns front back rest in
    (n ∷ r.0, r.1, ap₂ (λ (y : Effect) (ys : List Effect). y ∷ ys) first r.2, r.3)

module _ (seed count : ℕ) (input : SeenSource) (output : SeenSink) (journal : SeenJournal) (link : SeenLink)
    (before after : ℕ) where
  pub does_played : after ≡ before + cost (churned seed count).work
      → Does (Ok (tt {0})) (outside input output journal link before) (churned seed count).work
      (outside input output journal link after)
  does_played paid =
      let w = works_of seed count in
      does_as w.1 (does_works tt w.0 input output journal link before after
      (omega (arith, paid, ap cost w.1, cost-works w.0)))

  -- memory ran out on the way
  pub does_cut : {T : Type 0} (ys : List Effect) → PaysFront before (churned seed count).work after
      → Does {T = T} (Err early.NoMemory) (outside input output journal link before) ((churned seed count).work ++ ys)
      (outside input output journal link after)
  does_cut {T = T} ys h =
      let w = works_of seed count in
      let s = split_works w.0 h.front h.back (sym w.1 ∙ h.split) in
      does_more ys
      (does_as (h.split ∙ ap₂ (λ (xs zs : List Effect). xs ++ zs) s.2 s.3 ∙ sym (map-append Work s.0 s.1))
      (does_some_works s.0 s.1 input output journal link before after
      (omega (arith, h.paid, ap cost s.2, cost-works s.0))))

-- ---- its end

pub churn_end : {old new : SeenSink} {before after : ℕ} {xs : List Effect} (r : Result ⊤ End)
    → PrintsInSteps old before xs r new after → IsChurnEnd (status_of r Done)
churn_end (Ok x) p = tt
churn_end (Err early.NoMemory) p = tt
churn_end (Err early.WriteFault) p = tt
churn_end (Err early.ReadFault) p = absurd (no_read (Err early.ReadFault) p refl)
churn_end (Err early.JournalFault) p = absurd (no_journal (Err early.JournalFault) p refl)
