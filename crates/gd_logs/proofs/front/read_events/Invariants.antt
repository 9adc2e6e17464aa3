use Rattle.std.proofs.Common.{◌≡◌, ◌-◌, ◌≤◌, ◌++◌, length, sum, true}
use Rattle.std.specs.Prelude.{IsSome, None}
use Rattle.gd_base.specs.declared.ranges.TheConstants.{SESSION_EVENTS}
use Rattle.gd_events.specs.Ordered.{are_distinct}
use Rattle.gd_grammar.specs.Chains.{AreChains}
use Rattle.gd_grammar.specs.HeaderBytes.{header_bytes}
use Rattle.gd_grammar.specs.LogBytes.{log}
use Rattle.gd_grammar.proofs.DistinctLemmas.{Reached}
use Rattle.gd_outside.specs.Called.{SourceCalled}
use Rattle.gd_logs.specs.Steps.{ReadSoFar}
use Rattle.gd_logs.specs.Stream.{stream}
use Rattle.gd_logs.specs.Turns.{Follows}
use Rattle.gd_logs.proofs.EventLemmas.{log_from}
use Rattle.gd_logs.proofs.front.read_events.Given as goal

abbrev pub invariant-records : goal.invariant-records
invariant-records g l = record {
  called : SourceCalled (g.S.Source.seen l.fn.source) (g.S.Source.seen l.source) ⊥;
  follows : Follows l.reader.turns l.events;
  chained : AreChains g.K.LogKind.kind l.reader.chains l.events;
  reached : Reached l.events l.events;
  apart : are_distinct l.events ≡ true;
  header : l.reader.header ≡ l.fn.reader.header;
  on : l.reader.stopped ≡ None;
  exact : IsSome (g.S.Source.seen l.source).left
      → log g.K.LogKind.kind (header_bytes g.K.LogKind.kind l.fn.reader.header ++ stream l.fn.reader.ahead
      (g.S.Source.seen l.fn.source).left)
      ≡ log_from g.K.LogKind.kind l.reader.header l.events (stream l.reader.ahead (g.S.Source.seen l.source).left);
  so_far : ReadSoFar g.K.Op.Operation.IsOp g.K.LogKind.kind l.reader.header l.events l.reader.place
      (IsSome (g.S.Source.seen l.source).left)
      (header_bytes g.K.LogKind.kind l.fn.reader.header ++ stream l.fn.reader.ahead (g.S.Source.seen l.fn.source).left)
      (stream l.reader.ahead (g.S.Source.seen l.source).left);
  counted : length l.events ≤ sum l.reader.turns.counts;
  few : length l.events ≤ SESSION_EVENTS;
}

abbrev pub decreases-records : goal.decreases-records
decreases-records g l = SESSION_EVENTS - sum l.reader.turns.counts
