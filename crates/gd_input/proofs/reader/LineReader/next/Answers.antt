use Rattle.std.proofs.Common.{subst, sym, ◌∙◌}
use Rattle.std.proofs.lemmas.Bool.{false≢true}
use Rattle.gd_input.specs.Cutting.{HasNoLf}
use Rattle.gd_input.proofs.TakingLemmas.{reads_failed, takes_then}
use Rattle.gd_outside.proofs.CalledLemmas.{source_called_as, source_called_then}
use Rattle.gd_input.proofs.reader.LineReader.next.Goals as goal

pub returns-in_err-fill-clause-reads : goal.returns-in_err-fill-clause-reads
returns-in_err-fill-clause-reads g c =
    reads_failed _ _ c.from_residual.ensures.0
    (takes_then c.loop-end.invariant.takes (rw c.line_end.ensures.same at c.fill.ensures.takes))
    (subst HasNoLf (sym (c.in_err-fill.ensures.failed ∙ c.line_end.ensures.same)) c.in_default.ensures.end)

pub returns-then-branch-eq0-clause-called : goal.returns-then-branch-eq0-clause-called
returns-then-branch-eq0-clause-called g c
    = source_called_as (λ no. absurd (false≢true no))
    (source_called_then c.loop-end.invariant.called c.fill.ensures.called)

pub loop-end-preserved : goal.loop-end-preserved
loop-end-preserved g c = record {
  takes = takes_then c.loop-end.invariant.takes (rw c.line_end.ensures.same at c.fill.ensures.takes);
  called = source_called_as (λ no. absurd no)
      (source_called_then c.loop-end.invariant.called c.in_ok-fill.ensures.called);
}
