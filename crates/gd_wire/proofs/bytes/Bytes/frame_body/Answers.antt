use Rattle.std.proofs.lemmas.Result.{err_from_is_err_and}
use Rattle.gd_grammar.proofs.FrameWhole.{Front, head-faulty, note-faulty, count-faulty, events-faulty}
use Rattle.gd_grammar.proofs.FrameWhole.{frame-trailed, frame-read}
use Rattle.gd_wire.proofs.FrameLemmas.{stops}
use Rattle.gd_wire.proofs.bytes.Bytes.frame_body.Goals as goal

pub returns-in_err-head : goal.returns-in_err-head
returns-in_err-head c =
    let p = err_from_is_err_and c.from_residual.result c.from_residual.ensures.1 in
    rw (p.1, p.2) (head-faulty _ _ c.in_err-head.ensures)

pub returns-in_err-note : goal.returns-in_err-note
returns-in_err-note c =
    let p = err_from_is_err_and c.from_residual-in_err-note.result c.from_residual-in_err-note.ensures.1 in
    rw (p.1, p.2) (note-faulty _ _ _ c.in_ok-head.ensures c.in_err-note.ensures)

pub returns-in_err-count : goal.returns-in_err-count
returns-in_err-count c =
    let p = err_from_is_err_and c.from_residual-in_err-count.result c.from_residual-in_err-count.ensures.1 in
    rw (p.1, p.2) (count-faulty _ _ _ _ c.in_ok-head.ensures c.in_ok-note.ensures c.in_err-count.ensures)

pub returns-in_err-events : goal.returns-in_err-events
returns-in_err-events c =
    let p = err_from_is_err_and c.from_residual-in_err-events.result c.from_residual-in_err-events.ensures.1 in
    let front : Front c.args.self.now _ _ _ =
    record { head_is = c.in_ok-head.ensures; note_is = c.in_ok-note.ensures; count_is = c.in_ok-count.ensures } in
    rw (p.1, p.2) (stops c.in_err-events.field-0.0 _ _ (λ m. events-faulty _ _ _ _ m front) c.in_err-events.ensures)

pub returns-then-len-gt0 : goal.returns-then-len-gt0
returns-then-len-gt0 c =
    let front : Front c.args.self.now _ _ _ =
    record { head_is = c.in_ok-head.ensures; note_is = c.in_ok-note.ensures; count_is = c.in_ok-count.ensures } in
    rw c.len-then-len-gt0.ensures
    (frame-trailed _ _ _ _ _ front c.in_ok-events.ensures (rw (← c.len.ensures) c.if-len-gt0.true))

pub returns : goal.returns
returns c =
    let front : Front c.args.self.now _ _ _ =
    record { head_is = c.in_ok-head.ensures; note_is = c.in_ok-note.ensures; count_is = c.in_ok-count.ensures } in
    frame-read _ _ _ _ _ front c.in_ok-events.ensures (rw (← c.len.ensures) c.if-len-gt0.false)
