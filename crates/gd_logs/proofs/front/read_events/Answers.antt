use Rattle.std.proofs.Common.{◌≡◌, [], ◌∷◌, ap, ◌∙◌, refl, arith}
use Rattle.std.proofs.lemmas.List.{length-append}
use Rattle.std.proofs.lemmas.Result.{err_from_is_err_and}
use Rattle.std.specs.Prelude.{Err}
use Rattle.gd_grammar.proofs.ChainLemmas.{none-are}
use Rattle.gd_grammar.proofs.DistinctLemmas.{reached-push, distinct-push}
use Rattle.gd_outside.proofs.CalledLemmas.{source_called_then, source_called_as}
use Rattle.gd_logs.specs.declared.log.ReadError.TheVariants.{Log}
use Rattle.gd_logs.specs.declared.stopped.LogFault.TheVariants.{Bad}
use Rattle.gd_logs.proofs.EventLemmas.{from-some, from-none}
use Rattle.gd_logs.proofs.FrontLemmas.{front-begun, front-start, front-stops}
use Rattle.gd_logs.proofs.SpelledLemmas.{so_far-left, so_far-push}
use Rattle.gd_logs.proofs.front.read_events.Goals as goal

pub records-init : goal.records-init
records-init g c =
    let begins = c.requires in
    rw c.new-events.ensures record {
      called = record {
        taken = [];
        handed = record { was = λ t. t; now = λ t. refl };
        count = omega arith;
        cause = λ failed. absurd failed;
      };
      follows = record { counts = begins.fresh.counts; clocks = begins.fresh.clocks };
      chained = rw begins.unchained (none-are g.K.LogKind.kind);
      reached = tt;
      apart = refl;
      header = refl;
      on = begins.on;
      exact = λ is_told. front-start g.met.K.LogKind.laws c.args.reader.header _ begins.ruled;
      so_far = front-begun g.K.Op.Operation.IsOp g.K.LogKind.kind c.args.reader.header _ _ _ begins.ruled begins.there;
      counted = omega arith;
      few = omega arith;
    }

pub records-preserved : goal.records-preserved
records-preserved g c =
    let taken = rw c.in-Ok-Some.field-0-is at c.in-Ok-Some.ensures in
    let took = taken.next.follows c.records.events c.records.invariant.follows in
    rw (c.in_ok-push-in-Ok-Some.ensures.ok, taken.next.header) record {
      called = source_called_as (λ failed. absurd failed) (source_called_then c.records.invariant.called taken.called);
      follows = took.follows;
      chained = taken.next.chained c.records.events c.records.invariant.chained;
      reached = reached-push c.records.events c.records.events c.in-Ok-Some.event took.above
          c.records.invariant.reached;
      apart =
          distinct-push c.records.events c.records.events c.in-Ok-Some.event took.above c.records.invariant.reached
          c.records.invariant.apart;
      header = c.records.invariant.header;
      on = taken.next.stops c.records.invariant.on;
      exact = λ is_told.
          let step =
          taken.next.exact c.records.invariant.on c.records.events c.records.invariant.follows
          c.records.invariant.chained is_told in
          c.records.invariant.exact (taken.called.handed.was is_told)
          ∙ from-some g.met.K.LogKind.laws c.records.reader.header c.records.events _ _ step.0;
      so_far =
          so_far-push _ _ _ _ _ _ _ _ _ _ _ _ taken.called.handed.was c.records.invariant.so_far
          (taken.next.stood c.records.events c.records.invariant.follows c.records.invariant.chained);
      counted =
          omega (arith, taken.next.one_more.counted, length-append c.records.events (c.in-Ok-Some.event ∷ []));
      few =
          omega (
            arith,
            taken.next.one_more.counted,
            taken.next.one_more.few,
            length-append c.records.events (c.in-Ok-Some.event ∷ []),
          );
    }

-- ---- the end of the log

pub returns-in-Ok-None-clause-front : goal.returns-in-Ok-None-clause-front
returns-in-Ok-None-clause-front g c = λ is_told.
    let ended = rw c.in-Ok-None.field-0-is at c.in-Ok-None.ensures in
    let step =
    ended.next.exact c.records.invariant.on c.records.events c.records.invariant.follows
    c.records.invariant.chained is_told in (
      c.records.reader.header,
      c.records.invariant.exact (ended.called.handed.was is_told)
          ∙ from-none g.K.LogKind.kind c.records.reader.header c.records.events _ step.0,
    )

pub returns-in-Ok-None-clause-called : goal.returns-in-Ok-None-clause-called
returns-in-Ok-None-clause-called g c =
    source_called_as (λ failed. absurd cc) (source_called_then c.records.invariant.called c.in-Ok-None.ensures.called)

-- ---- a fault

pub returns-in-Err-Log-Bad-clause-front : goal.returns-in-Err-Log-Bad-clause-front
returns-in-Err-Log-Bad-clause-front g c = λ is_told.
    let bad : c.in-Err-Log-Bad.field-0 ≡ Log (Bad c.in-Err-Log-Bad.at c.in-Err-Log-Bad.why) =
    c.in-Err-Log-Bad.field-0-is ∙ ap Log (rw c.in-Err-Log-Bad.field-0-is at c.in-Err-Log-Bad.field-0-0-is) in
    let stopped = rw bad at c.in-Err-Log-Bad.ensures in
    let was = stopped.called.handed.was is_told in
    rw bad (front-stops g.K.Op.Operation.IsOp g.K.LogKind.kind c.records.reader.header c.records.events _ _ _
    c.records.reader.place _ c.in-Err-Log-Bad.at c.in-Err-Log-Bad.why _ c.records.invariant.so_far was
    (c.records.invariant.exact was) (so_far-left _ _ _ _ _ _ _ _ c.records.invariant.so_far was)
    (stopped.next.exact c.records.invariant.on c.records.events c.records.invariant.follows
    c.records.invariant.chained is_told))

pub returns-in-Err-Log-Bad-clause-called : goal.returns-in-Err-Log-Bad-clause-called
returns-in-Err-Log-Bad-clause-called g c =
    source_called_as (λ failed. absurd cc)
    (source_called_then c.records.invariant.called c.in-Err-Log-Bad.ensures.called)

-- ---- no answer

pub returns-in-Err-Log-Read-clause-called : goal.returns-in-Err-Log-Read-clause-called
returns-in-Err-Log-Read-clause-called g c =
    let read =
    c.in-Err-Log-Read.field-0-is ∙ ap Log (rw c.in-Err-Log-Read.field-0-is at c.in-Err-Log-Read.field-0-0-is) in
    source_called_as (λ failed. (c.records.invariant.on, ap Err read))
    (source_called_then c.records.invariant.called c.in-Err-Log-Read.ensures.called)

pub returns-in-Err-Memory-clause-called : goal.returns-in-Err-Memory-clause-called
returns-in-Err-Memory-clause-called g c =
    source_called_as (λ failed. absurd cc)
    (source_called_then c.records.invariant.called c.in-Err-Memory.ensures.called)

pub returns-in_err-push-in-Ok-Some-clause-called : goal.returns-in_err-push-in-Ok-Some-clause-called
returns-in_err-push-in-Ok-Some-clause-called g c =
    let p = err_from_is_err_and c.from_residual.result c.from_residual.ensures.1 in
    source_called_as (λ failed. absurd (let f = rw (p.1, p.2) at failed in cc))
    (source_called_then c.records.invariant.called c.in-Ok-Some.ensures.called)
