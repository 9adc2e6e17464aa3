use Rattle.std.proofs.Common.{ap, arith, ◌∙◌, ◌++◌}
use Rattle.std.specs.List.{concat}
use Rattle.gd_member.proofs.Printed.{printed_whole, snapshot_whole}
use Rattle.gd_snapshots.specs.SnapshotBytes.{snapshot_bytes, snapshot_pieces}
use Rattle.gd_member.proofs.member.Member.snapshot.Goals as goal

pub returns-in-Ok-clause-bytes : goal.returns-in-Ok-clause-bytes
returns-in-Ok-clause-bytes g c slow written st =
    let s = rw (← c.self.view_is) at st in
    c.into_bytes.ensures ∙ printed_whole _ _ (snapshot_pieces c.in_ok-snapshot.snapshot) c.in-Ok.ensures.does
    ∙ ap (λ old. old ++ concat (snapshot_pieces c.in_ok-snapshot.snapshot)) c.new-output.ensures.bytes
    ∙ snapshot_whole c.in_ok-snapshot.snapshot
    ∙ ap snapshot_bytes (c.in_ok-snapshot.ensures.snapshot slow s.stands.site)

pub returns-in-Ok-clause-steps : goal.returns-in-Ok-clause-steps
returns-in-Ok-clause-steps g c slow written st =
    let s = rw (← c.self.view_is) at st in
    c.in_ok-snapshot.ensures.steps slow s.stands.site

pub returns-clause-err_steps : goal.returns-clause-err_steps
returns-clause-err_steps g c slow written st =
    let s = rw (← c.self.view_is) at st in
    omega (arith, c.in_ok-snapshot.ensures.steps slow s.stands.site)

pub returns-clause-err_rose : goal.returns-clause-err_rose
returns-clause-err_rose g c =
    omega (arith, c.in_ok-snapshot.ensures.steps c.stands.ensures.slow c.stands.ensures.stands)
