use Rattle.std.proofs.Common.{[]}
use Rattle.std.proofs.lemmas.Result.{IfOk-weaker}
use Rattle.gd_outside.proofs.CalledLemmas.{source_called_then}
use Rattle.gd_logs.proofs.FrontLemmas.{front-begins, front-refused, front-whole}
use Rattle.gd_logs.proofs.front.read_front_of.Goals as goal

pub read_events-requires : goal.read_events-requires
read_events-requires g c =
    let start = c.in-Ok.ensures in
    front-begins g.K.Op.Operation.IsOp g.K.LogKind.kind c.in-Ok.reader _ _ _ _ start.header start.fresh start.unchained
    start.on start.begun

pub returns-in-Ok-clause-front : goal.returns-in-Ok-clause-front
returns-in-Ok-clause-front g c =
    let start = c.in-Ok.ensures in
    IfOk-weaker c.read_events.result _ _ (λ front read is_told.
    rw (front-whole g.K.Op.Operation.IsOp g.K.LogKind.kind _ _ _ _ _ _ start.header start.begun
    (c.read_events.ensures.called.handed.was is_told))
    (read is_told)) c.read_events.ensures.front

pub returns-in-Err-Bad-clause-front : goal.returns-in-Err-Bad-clause-front
returns-in-Err-Bad-clause-front g c =
    rw c.new.ensures (λ is_told.
    front-refused g.K.Op.Operation.IsOp g.K.LogKind.kind c.in-Err-Bad.at c.in-Err-Bad.why _ []
    (rw c.in-Err-Bad.field-0-is at (c.in-Err-Bad.ensures.exact is_told)))

pub returns-in-Ok-clause-called : goal.returns-in-Ok-clause-called
returns-in-Ok-clause-called g c = source_called_then c.in-Ok.ensures.called c.read_events.ensures.called
