use Rattle.std.proofs.Common.{◌∙◌, ap}
use Rattle.std.proofs.lemmas.Result.{err_from_is_err_and}
use Rattle.gd_grammar.specs.FieldBytes.{AreBytes}
use Rattle.gd_grammar.proofs.ChainLemmas.{taken-check}
use Rattle.gd_logs.proofs.RecordLemmas.{check-stops, check-within, event-front, event-inside, event-left, event-stops}
use Rattle.gd_logs.proofs.RecordLemmas.{nine_bytes, record-left, record-next, record-refused}
use Rattle.gd_logs.proofs.CheckLemmas.{event_then}
use Rattle.gd_logs.proofs.record.read_event.Goals as goal

pub returns-in_err-event-clause-exact : goal.returns-in_err-event-clause-exact
returns-in_err-event-clause-exact g c = λ seen follows chained.
    let p = err_from_is_err_and c.from_residual.result c.from_residual.ensures.1 in
    let e = rw (c.new-rest.ensures, c.version.ensures) at c.in_err-event.ensures in
    rw (p.1, p.2) (event-stops g.met.K.LogKind.laws (λ event. (event, c.event.new.self)) c.args.header.now seen
    c.args.bytes.now c.in_err-event.field-0.0 e)

pub returns-in_err-event-clause-inside : goal.returns-in_err-event-clause-inside
returns-in_err-event-clause-inside g c =
    let p = err_from_is_err_and c.from_residual.result c.from_residual.ensures.1 in
    let e = rw (c.new-rest.ensures, c.version.ensures) at c.in_err-event.ensures in
    rw (p.1, p.2) (event-inside g.met.K.LogKind.laws (λ event. (event, c.event.new.self)) c.args.header.now.version
    c.args.bytes.now c.in_err-event.field-0.0 e)

pub overflow_sub-bytes : goal.overflow_sub-bytes
overflow_sub-bytes g c =
    let e = rw (c.new-rest.ensures, c.version.ensures) at c.in_ok-event.ensures in
    rw c.len.ensures (event-left g.met.K.LogKind.laws c.args.header.now.version c.args.bytes.now
    (c.in_ok-event.event, c.event.new.self) e).0

pub turn_error-requires : goal.turn_error-requires
turn_error-requires g c =
    let e = rw (c.new-rest.ensures, c.version.ensures) at c.in_ok-event.ensures in
    nine_bytes g.met.K.LogKind.laws c.args.header.now.version c.args.bytes.now
    (c.in_ok-event.event, c.event.new.self) e

pub returns-in-Err-clause-exact : goal.returns-in-Err-clause-exact
returns-in-Err-clause-exact g c = λ seen follows chained.
    let e = rw (c.new-rest.ensures, c.version.ensures) at c.in_ok-event.ensures in
    rw c.turn_error.ensures (record-refused g.met.K.LogKind.laws c.args.header.now seen c.args.bytes.now
    (c.in_ok-event.event, c.event.new.self) c.in-Err.why e
    (rw c.n.ensures.value at (c.in-Err.ensures.exact seen follows)))

-- ---- a record that was read

pub returns-in_err-left-in-Ok-clause-inside : goal.returns-in_err-left-in-Ok-clause-inside
returns-in_err-left-in-Ok-clause-inside g c =
    let q = c.from_residual-in_err-left-in-Ok in
    let p = err_from_is_err_and q.result q.ensures.1 in
    let e = rw (c.new-rest.ensures, c.version.ensures) at c.in_ok-event.ensures in
    let left = event-left g.met.K.LogKind.laws c.args.header.now.version c.args.bytes.now
    (c.in_ok-event.event, c.event.new.self) e in
    let behind = rw c.len.ensures at c.split_at.ensures.back ∙ left.1 in
    rw (p.1, p.2) (check-within g.met.K.LogKind.laws c.args.header.now.version c.next-check.result c.args.bytes.now
    (c.in_ok-event.event, c.event.new.self) c.in_err-left-in-Ok.field-0.0 e
    (rw (c.version-in-Ok.ensures, behind) at c.in_err-left-in-Ok.ensures))

pub returns-in_ok-left-in-Ok-clause-value : goal.returns-in_ok-left-in-Ok-clause-value
returns-in_ok-left-in-Ok-clause-value g c =
    let e = rw (c.new-rest.ensures, c.version.ensures) at c.in_ok-event.ensures in
    let are : AreBytes c.args.bytes.now = λ i. (c.type_inv.bytes i).fits in
    let spelled = rw c.len.ensures at c.split_at.ensures.front ∙ event-front g.met.K.LogKind.laws
    c.args.header.now.version c.args.bytes.now (c.in_ok-event.event, c.event.new.self) are e in
    rw (← spelled, ← c.stamp.ensures, ← c.site.ensures.value) c.next-check.ensures

pub overflow_sub-result : goal.overflow_sub-result
overflow_sub-result g c =
    let e = rw (c.new-rest.ensures, c.version.ensures) at c.in_ok-event.ensures in
    let left = event-left g.met.K.LogKind.laws c.args.header.now.version c.args.bytes.now
    (c.in_ok-event.event, c.event.new.self) e in
    let behind = rw c.len.ensures at c.split_at.ensures.back ∙ left.1 in
    (record-left g.met.K.LogKind.laws c.args.header.now.version c.next-check.result c.args.bytes.now
    (c.in_ok-event.event, c.event.new.self) c.in_ok-left-in-Ok.left.now e
    (rw (c.version-in-Ok.ensures, behind) at c.in_ok-left-in-Ok.ensures)).0

pub returns-in_err-left-in-Ok-clause-exact : goal.returns-in_err-left-in-Ok-clause-exact
returns-in_err-left-in-Ok-clause-exact g c = λ seen follows chained.
    let q = c.from_residual-in_err-left-in-Ok in
    let p = err_from_is_err_and q.result q.ensures.1 in
    let e = rw (c.new-rest.ensures, c.version.ensures) at c.in_ok-event.ensures in
    let left = event-left g.met.K.LogKind.laws c.args.header.now.version c.args.bytes.now
    (c.in_ok-event.event, c.event.new.self) e in
    let behind = rw c.len.ensures at c.split_at.ensures.back ∙ left.1 in
    let are : AreBytes c.args.bytes.now = λ i. (c.type_inv.bytes i).fits in
    let spelled = rw c.len.ensures at c.split_at.ensures.front ∙ event-front g.met.K.LogKind.laws
    c.args.header.now.version c.args.bytes.now (c.in_ok-event.event, c.event.new.self) are e in
    let range = rw c.stamp.ensures at c.site.ensures.range in
    let next = rw (c.site.ensures.value, c.stamp.ensures) at c.next-check.ensures in
    let check = next ∙ taken-check g.K.LogKind.kind c.args.chains.now seen c.in_ok-event.event _ chained
    (range.site_above, range.site_below) spelled in
    rw (p.1, p.2) (check-stops g.met.K.LogKind.laws c.args.header.now seen c.args.bytes.now
    (c.in_ok-event.event, c.event.new.self) c.in_err-left-in-Ok.field-0.0 e
    (rw c.n.ensures.value at (c.in-Ok.ensures.exact seen follows))
    (rw (c.version-in-Ok.ensures, behind, check) at c.in_err-left-in-Ok.ensures))

pub returns-in_ok-left-in-Ok-clause-exact : goal.returns-in_ok-left-in-Ok-clause-exact
returns-in_ok-left-in-Ok-clause-exact g c = λ seen follows chained.
    let e = rw (c.new-rest.ensures, c.version.ensures) at c.in_ok-event.ensures in
    let left = event-left g.met.K.LogKind.laws c.args.header.now.version c.args.bytes.now
    (c.in_ok-event.event, c.event.new.self) e in
    let behind = rw c.len.ensures at c.split_at.ensures.back ∙ left.1 in
    let are : AreBytes c.args.bytes.now = λ i. (c.type_inv.bytes i).fits in
    let spelled = rw c.len.ensures at c.split_at.ensures.front ∙ event-front g.met.K.LogKind.laws
    c.args.header.now.version c.args.bytes.now (c.in_ok-event.event, c.event.new.self) are e in
    let range = rw c.stamp.ensures at c.site.ensures.range in
    let next = rw (c.site.ensures.value, c.stamp.ensures) at c.next-check.ensures in
    let check = next ∙ taken-check g.K.LogKind.kind c.args.chains.now seen c.in_ok-event.event _ chained
    (range.site_above, range.site_below) spelled in
    let read = rw (c.version-in-Ok.ensures, behind, check) at c.in_ok-left-in-Ok.ensures in
    rw (record-left g.met.K.LogKind.laws c.args.header.now.version _ c.args.bytes.now
    (c.in_ok-event.event, c.event.new.self) c.in_ok-left-in-Ok.left.now e read).1
    (record-next g.met.K.LogKind.laws c.args.header.now seen c.args.bytes.now (c.in_ok-event.event, c.event.new.self) e
    (rw c.n.ensures.value at (c.in-Ok.ensures.exact seen follows)) ∙ ap (event_then c.in_ok-event.event) read)
