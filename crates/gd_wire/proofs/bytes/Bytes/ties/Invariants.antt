use Rattle.std.proofs.Common.{◌≡◌, ◌-◌, length, Some, None}
use Rattle.gd_grammar.specs.OpBytes.{tie_at, ties_at}
use Rattle.gd_grammar.proofs.Many.{Reading}
use Rattle.gd_wire.proofs.bytes.Bytes.ties.Given as goal

abbrev pub invariant-each : goal.invariant-each
invariant-each l = record {
  reading : Reading (tie_at l.stamp) (λ t. Some t.id) (ties_at l.count l.stamp None l.fn.self) (l.count - l.counter)
      l.last l.ties l.self;
  so_many : length l.ties ≡ l.counter;
}
