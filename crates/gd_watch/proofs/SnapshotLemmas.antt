-- What `snapshot` ends with, by what it read and what it wrote.
use Rattle.std.proofs.Common.{◌≡◌, ℕ, ◌+◌, ◌-◌, ◌≤◌, List, [], ◌∷◌, ◌++◌, length, replicate, sum, sym, ap, ◌∙◌, arith}
use Rattle.std.proofs.Common.{append_assoc}
use Rattle.std.specs.Prelude.{Result, Ok, Err, OnErr, OnOk}
use Rattle.std.proofs.lemmas.List.{replicate-append-replicate}
use Rattle.std.proofs.lemmas.List.Folds.{sum_by-replicate}
use Rattle.std.proofs.lemmas.List.Sums.{sum_by-append}
use Rattle.gd_base.specs.declared.fault.LogWhy.{LogWhy}
use Rattle.gd_events.specs.Events.{Event}
use Rattle.gd_events.specs.Sound.{IsOp}
use Rattle.gd_grammar.specs.Drawings.{drawings, log}
use Rattle.gd_grammar.specs.HeaderBytes.{Header, upgraded}
use Rattle.gd_grammar.proofs.DrawingKind.{drawing_laws}
use Rattle.gd_lines.specs.declared.reply.Reply.TheVariants as reply
use Rattle.gd_logs.proofs.UpgradeLemmas.{has-newest}
use Rattle.gd_logs.specs.Steps.{IsFault}
use Rattle.gd_logs.specs.Written.{AreNext, IsRuled}
use Rattle.gd_model.specs.Arrivals.{costs}
use Rattle.gd_outside.specs.declared.status.Status.TheVariants as status
use Rattle.gd_reference.specs.Said.{says}
use Rattle.gd_reference.specs.SlowRun.{ended_as, ended_by}
use Rattle.gd_reference.specs.SlowSite.{SlowSite, kept, resumed}
use Rattle.gd_viewing.specs.Snapshotting.{of_snapshot, site_of, snapshotted_as, snapshotted}
use Rattle.gd_arriving.specs.Arriving.{PaidFront}
use Rattle.gd_watch.specs.Capturing.{steps_of}

-- ---- the rules of a log

next-newest : (h : Header) (seen es : List Event) → AreNext IsOp drawings h seen es
    → AreNext IsOp drawings (upgraded drawings h) seen es
unfolding AreNext
next-newest h seen [] next = tt
next-newest h seen (e ∷ es) next = (
  record { sound = next.0.sound; spelled = drawing_laws.newer h.version e.op next.0.spelled },
  next.1,
  next-newest h
      (seen ++ e ∷ []) es next.2,
)

-- what obeys them in an older version does so in the newest
pub ruled-newest : (h : Header) (events : List Event) → IsRuled IsOp drawings h events
    → IsRuled IsOp drawings (upgraded drawings h) events
ruled-newest h events ruled = record {
  header = record {
    site_above = ruled.header.site_above;
    site_below = ruled.header.site_below;
    few
        = ruled.header.few;
  };
  session = ruled.session;
  version = has-newest drawings.newest;
  next = next-newest h [] events ruled.next;
}

-- ---- steps

abbrev ones : ℕ → List ℕ
ones k = replicate k 1

sum-ones : (k : ℕ) → sum (ones k) ≡ k
sum-ones k = omega (arith, sum_by-replicate (λ (n : ℕ). n) k 1)

sum-more : (ns : List ℕ) (k : ℕ) → sum (ns ++ ones k) ≡ sum ns + k
sum-more ns k = omega (arith, sum_by-append (λ (n : ℕ). n) ns (ones k), sum-ones k)

ones-behind : (ns : List ℕ) (k a b : ℕ) → k ≡ a + b → ns ++ ones k ≡ (ns ++ ones a) ++ ones b
ones-behind ns k a b e = ap (λ (n : ℕ). ns ++ ones n) e
    ∙ ap (λ (l : List ℕ). ns ++ l) (sym (replicate-append-replicate a b 1)) ∙ sym (append_assoc ns (ones a) (ones b))

module _ (slow : SlowSite) (old middle new : ℕ) where
  -- the events arrived, and the kept ones were undone
  took_all : middle ≡ old + sum (costs slow.held) → new ≡ middle + length (kept slow) → new ≡ old + sum (steps_of slow)
  took_all arrived undone = omega (arith, arrived, undone, sum-more (costs slow.held) (length (kept slow)))

  -- memory ran out while they were undone
  took_undone : middle ≡ old + sum (costs slow.held) → middle ≤ new → new ≤ middle + length (kept slow)
      → PaidFront (steps_of slow) old new
  took_undone arrived rose most =
      let left : ℕ = middle + length (kept slow) - new in
      record {
        front = costs slow.held ++ ones (new - middle);
        back = ones left;
        split = ones-behind (costs slow.held) (length (kept slow)) (new - middle) left (omega (arith, rose, most));
        paid = omega (arith, arrived, rose, sum-more (costs slow.held) (new - middle));
      }

-- memory ran out while the events arrived
took_arrivals : (slow : SlowSite) (old new : ℕ) (front back : List ℕ) → costs slow.held ≡ front ++ back
    → new ≡ old + sum front → PaidFront (steps_of slow) old new
took_arrivals slow old new front back split paid = record {
  front = front;
  back = back ++ ones (length (kept slow));
  split = ap (λ (l : List ℕ). l ++ ones (length (kept slow))) split
      ∙ append_assoc front back (ones (length (kept slow)));
  paid = paid;
}

-- the same of the site of a log, by the results of the calls
module _ (h : Header) (events : List Event) (old : ℕ) where
  pub err_arrivals : (new : ℕ) (front back : List ℕ) → costs events ≡ front ++ back → new ≡ old + sum front
      → PaidFront (steps_of (site_of h events)) old new
  unfolding resumed
  err_arrivals new front back split paid = took_arrivals (site_of h events) old new front back split paid

  module _ (middle new : ℕ) where
    pub ok_all : {A E : Type 0} (r : Result A E) → middle ≡ old + sum (costs events)
        → OnOk r (new ≡ middle + length (kept (site_of h events)))
        → OnOk r (new ≡ old + sum (steps_of (site_of h events)))
    unfolding resumed
    ok_all (Ok x) arrived undone = took_all (site_of h events) old middle new arrived undone
    ok_all (Err e) arrived undone = tt

    pub err_undone : {A E : Type 0} (r : Result A E) → middle ≡ old + sum (costs events) → OnErr r (middle ≤ new)
        → OnErr r (new ≤ middle + length (kept (site_of h events)))
        → OnErr r (PaidFront (steps_of (site_of h events)) old new)
    unfolding resumed
    err_undone (Ok x) arrived rose most = tt
    err_undone (Err e) arrived rose most = took_undone (site_of h events) old middle new arrived rose most

-- ---- what is owed

-- for a log it is the snapshot
pub owes-snapshot : (bytes : List ℕ) (h : Header) (events : List Event) → log bytes ≡ Ok (h, events)
    → (snapshotted bytes ≡ of_snapshot (site_of h events)) × (ended_by bytes ≡ status.Done)
owes-snapshot bytes h events e = (ap (snapshotted_as bytes) e, ap ended_as e)

-- for bytes that are no log it is the line of their first fault
pub owes-refusal : (bytes : List ℕ) (at : ℕ) (why : LogWhy) → IsFault (log bytes) bytes at why
    → (snapshotted bytes ≡ says (reply.BadLog at why) ∷ []) × (ended_by bytes ≡ status.BadLog)
owes-refusal bytes at why fault = (
  ap (snapshotted_as bytes) fault.is
      ∙ ap (λ (p : ℕ). says (reply.BadLog p why) ∷ []) (sym fault.there),
  ap ended_as fault.is,
)
