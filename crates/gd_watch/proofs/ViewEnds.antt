-- How a view ends, by how it was carried out.
use Rattle.std.proofs.Common.{◌≡◌, ℕ, ◌+◌, List, [], ◌∷◌, ◌++◌, map, sum, refl, sym, ap, ◌∙◌, subst, arith}
use Rattle.std.specs.Prelude.{Some, Result, Ok, Err, IfOk, IsErrAnd, IsSome}
use Rattle.gd_arriving.specs.Arriving.{PaidFront}
use Rattle.gd_base.specs.declared.fault.ViewWhy.{ViewWhy}
use Rattle.gd_effects.proofs.Doing.{did_as, did_then, does_as, does_more, does_some_works, does_then, does_when}
use Rattle.gd_effects.proofs.Doing.{does_works, told_before}
use Rattle.gd_effects.proofs.NodeEnds.{ends_as, runs_then}
use Rattle.gd_effects.proofs.OneRecord.{none_done}
use Rattle.gd_effects.proofs.RunEnds.{idle_journal, idle_link, no_read}
use Rattle.gd_effects.specs.Done.{Did, Does}
use Rattle.gd_effects.specs.Effects.{Effect, Work}
use Rattle.gd_effects.specs.Endings.{EndsAs, IsUncut}
use Rattle.gd_effects.specs.Outside.{Outside, IsTold, outside}
use Rattle.gd_effects.specs.Prints.{Prints}
use Rattle.gd_effects.specs.Runs.{RunsAs, ended}
use Rattle.gd_handover.specs.Reading.{EndsWithin, IsFront, IsMisread}
use Rattle.gd_lines.specs.declared.reply.Reply.TheVariants as reply
use Rattle.gd_outside.proofs.ToldLemmas.{hands_out_then}
use Rattle.gd_outside.specs.Called.{SourceCalled}
use Rattle.gd_outside.specs.Seen.{SeenSource, SeenSink, SeenJournal, SeenLink}
use Rattle.gd_outside.specs.Told.{told}
use Rattle.gd_outside.specs.declared.end.End.{End}
use Rattle.gd_outside.specs.declared.end.End.TheVariants as early
use Rattle.gd_outside.specs.declared.status.Status.{Status}
use Rattle.gd_outside.specs.declared.status.Status.TheVariants.{Done, BadView, LineLimit, ReadFault, WriteFault}
use Rattle.gd_outside.specs.declared.status.Status.TheVariants.{NoMemory}
use Rattle.gd_reference.specs.Said.{says}
use Rattle.gd_snapshots.specs.SnapshotBytes.{snapshot_at}
use Rattle.gd_snapshots.specs.Snapshots.{Snapshot}
use Rattle.gd_viewing.specs.Viewing.{view_as, view_cut, view_cut_as, view_effects, view_end, view_end_as}
use Rattle.gd_watch.specs.Ends.{IsShownEnd, IsViewEnd}
use Rattle.gd_watch.proofs.SoFar.{did_read, err_is, reads_and_fails, reads_on}

-- ---- the status

shown_uncut : (s : Status) → IsShownEnd s → IsUncut s
shown_uncut Done k = tt
shown_uncut BadView k = tt
shown_uncut LineLimit k = tt
shown_uncut other k = absurd k

shown_view : (s : Status) → IsShownEnd s → IsViewEnd s
shown_view Done k = tt
shown_view BadView k = tt
shown_view LineLimit k = tt
shown_view other k = absurd k

all_uncut : (r : Result Status End) → IfOk r IsShownEnd → IfOk r IsUncut
all_uncut (Ok s) k = shown_uncut s k
all_uncut (Err e) k = tt

view_end_of : (r : Result Status End) → IfOk r IsShownEnd → (r ≡ Err early.JournalFault → ⊥) → IsViewEnd (ended r)
view_end_of (Ok s) kind other = shown_view s kind
view_end_of (Err early.NoMemory) kind other = tt
view_end_of (Err early.ReadFault) kind other = tt
view_end_of (Err early.WriteFault) kind other = tt
view_end_of (Err early.JournalFault) kind other = absurd (other refl)

abbrev told_link : SeenLink → SeenLink
told_link link = record link { entries = Some [] }

module _ {a b : SeenSource} {output output' : SeenSink} {steps steps' : ℕ} where
  -- a run of which the journal is no part doesn't end by it
  no_journal : {xs : List Effect} (r : Result Status End)
      → Does r (outside a output idle_journal idle_link steps) xs (outside b output' idle_journal idle_link steps')
      → r ≡ Err early.JournalFault → ⊥
  no_journal (Err early.JournalFault) h e = omega (arith, h.cause)
  no_journal other h e = cc

  module _ (journal : SeenJournal) (link : SeenLink) where
    -- what was done beside a link that tells its entries was done beside any
    beside : {xs : List Effect}
        → Did (outside a output journal (told_link link) steps) xs (outside b output' journal (told_link link) steps')
        → Did (outside a output journal link steps) xs (outside b output' journal link steps')
    beside h = record { output = h.output; journal = h.journal; tried = h.tried; steps = h.steps }

    ends_beside : {xs : List Effect} {cut : List ℕ → List Effect} {whole : Status} (s : Status) → IsViewEnd s
        → EndsAs (IsTold (outside b output' journal (told_link link) steps')) xs cut whole s
        (outside a output journal (told_link link) steps) (outside b output' journal (told_link link) steps')
        → EndsAs (IsSome b.left) xs cut whole s (outside a output journal link steps)
        (outside b output' journal link steps')
    ends_beside Done k h = record {
      counts = record {
        input = h.counts.input;
        output = h.counts.output;
        journal = h.counts.journal;
        link
            = h.counts.link;
      };
      cause = tt;
      unopened = tt;
      was = record { input = h.was.input; entries = λ t. t };
      leaves = λ t. let l = h.leaves (record { input = t; entries = refl }) in (beside l.0, l.1);
    }
    ends_beside BadView k h = record {
      counts = record {
        input = h.counts.input;
        output = h.counts.output;
        journal = h.counts.journal;
        link
            = h.counts.link;
      };
      cause = tt;
      unopened = tt;
      was = record { input = h.was.input; entries = λ t. t };
      leaves = λ t. let l = h.leaves (record { input = t; entries = refl }) in (beside l.0, l.1);
    }
    ends_beside LineLimit k h = record {
      counts = record {
        input = h.counts.input;
        output = h.counts.output;
        journal = h.counts.journal;
        link
            = h.counts.link;
      };
      cause = tt;
      unopened = tt;
      was = record { input = h.was.input; entries = λ t. t };
      leaves = λ t. let l = h.leaves (record { input = t; entries = refl }) in (beside l.0, l.1);
    }
    ends_beside NoMemory k h = record {
      counts = record {
        input = h.counts.input;
        output = h.counts.output;
        journal = h.counts.journal;
        link
            = h.counts.link;
      };
      cause = tt;
      unopened = tt;
      was = record { input = h.was.input; entries = λ t. t };
      leaves = λ t. let l = h.leaves (record { input = t; entries = refl })
          in record { front = l.front; back = l.back; split = l.split; did = beside l.did };
    }
    ends_beside ReadFault k h = record {
      counts = record {
        input = h.counts.input;
        output = h.counts.output;
        journal = h.counts.journal;
        link
            = h.counts.link;
      };
      cause = h.cause;
      unopened = tt;
      was = record { input = h.was.input; entries = λ t. t };
      leaves = λ t. let l = h.leaves (record { input = t; entries = refl }) in (
        record { front = l.0.front; back = l.0.back; split = l.0.split; did = beside l.0.did },
        record { taken = l.1.taken; handed = l.1.handed; did = beside l.1.did },
      );
    }
    ends_beside WriteFault k h = record {
      counts = record {
        input = h.counts.input;
        output = h.counts.output;
        journal = h.counts.journal;
        link
            = h.counts.link;
      };
      cause = h.cause;
      unopened = tt;
      was = record { input = h.was.input; entries = λ t. t };
      leaves = λ t. let l = h.leaves (record { input = t; entries = refl }) in
          record { front = l.front; half = l.half; rest = l.rest; back = l.back; split = l.split; did = beside l.did };
    }
    ends_beside other k h = absurd k

module _ {a b : SeenSource} {output output' : SeenSink} {steps steps' : ℕ} {xs : List Effect}
    {cut : List ℕ → List Effect} {whole : Status} (r : Result Status End) (kind : IfOk r IsShownEnd)
    (runs : (journal : SeenJournal) (link : SeenLink)
    → RunsAs xs cut whole r (outside a output journal link steps) (outside b output' journal link steps')) where
  pub view_kind : IsViewEnd (ended r)
  view_kind = view_end_of r kind (no_journal r (runs idle_journal idle_link).does)

  pub view_ends : (journal : SeenJournal) (link : SeenLink)
      → EndsAs (IsSome b.left) xs cut whole (ended r) (outside a output journal link steps)
      (outside b output' journal link steps')
  view_ends journal link
      = ends_beside journal link (ended r) view_kind
      (ends_as cut whole r (all_uncut r kind) (runs journal (told_link link)))

-- ---- what was read before

module _ {a b : SeenSource} {failed : Type 0} (called : SourceCalled a b failed) (output : SeenSink)
    (journal : SeenJournal) (link : SeenLink) (steps : ℕ) where
  -- a snapshot, and then what stands behind it
  pub runs_behind : {s : Snapshot} {count : ℕ} (r : Result Status End) {new : Outside}
      (front : IsFront s count a.left b.left)
      → RunsAs (view_as (front.taken ++ told b.left) (Ok (s, told b.left))) (λ taken. view_cut_as (Ok (s, taken)))
      (view_end_as (Ok (s, told b.left))) r (outside b output journal link steps) new
      → RunsAs (view_effects (told a.left)) view_cut (view_end (told a.left)) r (outside a output journal link steps)
      new
  runs_behind {s} r front h =
      let handed = front.handed in
      let read : IsSome b.left
      → snapshot_at (told a.left) ≡ Ok (s, told b.left) = λ t. ap snapshot_at (handed.now t)
      ∙ front.is (told b.left) in
      record {
        does = does_when _ (λ t.
            let u = (told_before h.does.was t).input in
            ap (view_as (told a.left)) (read u) ∙ ap (λ (z : List ℕ). view_as z (Ok (s, told b.left))) (handed.now u))
            (does_then (reads_on called output journal link steps) h.does);
        end = λ t. let u = (told_before h.does.was t).input
            in subst (λ (z : Status). IfOk r (λ (x : Status). x ≡ z)) (sym (ap view_end_as (read u))) (h.end t);
        read = λ is t. let d = h.read is t in record {
          taken = front.taken ++ d.taken;
          handed = hands_out_then handed d.handed;
          did = did_as (ap view_cut_as (front.is d.taken)) (did_then (did_read called output journal link steps) d.did);
        };
      }

  -- a read failed within it
  pub runs_unread : failed → EndsWithin a.left b.left → (whole : Status) (xs : List Effect)
      → RunsAs xs view_cut whole (Err early.ReadFault) (outside a output journal link steps)
      (outside b output journal link steps)
  runs_unread f within whole xs = record {
    does = does_more xs (reads_and_fails called output journal link steps f);
    end = λ t. tt;
    read = λ is t. record {
      taken = within.taken;
      handed = within.handed;
      did = did_as (ap view_cut_as within.within) (did_read called output journal link steps);
    };
  }

  -- memory ran out
  pub runs_out : (whole : Status) (xs : List Effect)
      → RunsAs xs view_cut whole (Err early.NoMemory) (outside a output journal link steps)
      (outside b output journal link steps)
  runs_out whole xs = record {
    does = does_then (reads_on called output journal link steps) (none_done b output journal link xs refl);
    end = λ t. tt;
    read = λ is. absurd cc;
  }

  -- the bytes are no snapshot
  pub runs_misread : (at : ℕ) (why : ViewWhy) (r : Result Status End) {new : SeenSink}
      → (IsSome b.left → IsMisread (snapshot_at (told a.left)) (told a.left) at why)
      → Prints output (says (reply.BadView at why) ∷ []) r new → IfOk r (λ (s : Status). s ≡ BadView)
      → RunsAs (view_effects (told a.left)) view_cut (view_end (told a.left)) r (outside a output journal link steps)
      (outside b new journal link steps)
  runs_misread at why r bad print end =
      let last = print b journal link steps in
      record {
        does = does_when _ (λ t.
            let m = bad (told_before last.was t).input in
            ap (view_as (told a.left)) m.is ∙ ap (λ (n : ℕ). says (reply.BadView n why) ∷ []) (sym m.there))
            (does_then (reads_on called output journal link steps) last);
        end = λ t. let m = bad (told_before last.was t).input
            in subst (λ (z : Status). IfOk r (λ (s : Status). s ≡ z)) (sym (ap view_end_as m.is)) end;
        read = λ is. absurd (no_read r (λ input journal link. print input journal link steps) is);
      }

-- ---- a viewer that is opened

module _ (a : SeenSource) (output : SeenSink) (journal : SeenJournal) (link : SeenLink) {steps steps' : ℕ}
    (works : List ℕ) where
  -- with all its steps, before the run goes on
  pub runs_opened : {xs : List Effect} {cut : List ℕ → List Effect} {whole : Status} {r : Result Status End}
      {new : Outside} → steps' ≡ steps + sum works → RunsAs xs cut whole r (outside a output journal link steps') new
      → RunsAs (map Work works ++ xs) (λ taken. map Work works ++ cut taken) whole r
      (outside a output journal link steps) new
  runs_opened paid h = runs_then {T = Unit {0}} (does_works tt works a output journal link steps steps' paid)
      (record { was = λ t. t; now = λ t. refl }) h

  -- with some of them, before memory ran out
  pub runs_unopened : (xs : List Effect) (cut : List ℕ → List Effect) (whole : Status) (r : Result Status End)
      → IsErrAnd r (λ y. y ≡ early.NoMemory) → PaidFront works steps steps'
      → RunsAs (map Work works ++ xs) cut whole r (outside a output journal link steps)
      (outside a output journal link steps')
  runs_unopened xs cut whole r is paid =
      subst (λ (q : Result Status End). RunsAs (map Work works ++ xs) cut whole q (outside a output journal link steps)
      (outside a output journal link steps')) (sym (err_is r is))
      (record {
        does = does_more xs (does_as (ap (map Work) paid.split)
            (does_some_works paid.front paid.back a output journal link steps steps' paid.paid));
        end = λ t. tt;
        read = λ e. absurd cc;
      })
