use Rattle.std.proofs.Common.{◌∙◌}
use Rattle.gd_logs.proofs.GestureLemmas.{parted}
use Rattle.gd_logs.proofs.writer.KindWriter.append_all.Goals as goal

pub returns-in-Ok-put_behind-clause-added : goal.returns-in-Ok-put_behind-clause-added
returns-in-Ok-put_behind-clause-added g c is_told seen events are =
    let p =
    parted g.K.LogKind.kind seen events c.args.records _ _ c.requires.some are
    (c.as_slice.ensures.value ∙ c.in-Ok.ensures) c.behind_gate.ensures in
    rw (← p.are) (c.in-Ok-put_behind.ensures.added is_told seen p.first p.others p.is)

pub returns-in-Ok-put_behind-clause-adds : goal.returns-in-Ok-put_behind-clause-adds
returns-in-Ok-put_behind-clause-adds g c is_told seen events are =
    let p =
    parted g.K.LogKind.kind seen events c.args.records _ _ c.requires.some are
    (c.as_slice.ensures.value ∙ c.in-Ok.ensures) c.behind_gate.ensures in
    rw (← p.are) (c.in-Ok-put_behind.ensures.adds is_told seen p.first p.others p.is)

pub returns-clause-torn : goal.returns-clause-torn
returns-clause-torn g c failed is_told seen events are =
    let p =
    parted g.K.LogKind.kind seen events c.args.records _ _ c.requires.some are
    (c.as_slice.ensures.value ∙ c.in-Ok.ensures) c.behind_gate.ensures in
    rw (← p.are) (c.in-Err.ensures.torn is_told seen p.first p.others p.is)
