use Rattle.std.proofs.Common.{◌<◌, ◌^◌, length, rules, arith}
use Rattle.std.proofs.lemmas.Result.{err_from_is_err_and}
use Rattle.gd_grammar.proofs.ExactFrame.{frame-taken, magic-long}
use Rattle.gd_grammar.proofs.FrameWhole.{body-faulty, frame-inside, magic-faulty, version-faulty}
use Rattle.gd_wire.proofs.FrameLemmas.{begun, of-body, stops}
use Rattle.gd_wire.proofs.frame.read.frame_of.Goals as goal

pub returns-in_err-frame_magic : goal.returns-in_err-frame_magic
returns-in_err-frame_magic c =
    let p = err_from_is_err_and c.from_residual.result c.from_residual.ensures.1 in
    rw (p.1, p.2) (magic-faulty _ _ (rw c.new-front.ensures at c.in_err-frame_magic.ensures))

pub returns-in_err-frame_version : goal.returns-in_err-frame_version
returns-in_err-frame_version c =
    let q = c.from_residual-in_err-frame_version in
    let p = err_from_is_err_and q.result q.ensures.1 in
    let magic = rw c.new-front.ensures at c.in_ok-frame_magic.ensures in
    rw (p.1, p.2) (version-faulty _ _ _ magic c.in_err-frame_version.ensures)

pub body_of-requires : goal.body_of-requires
body_of-requires c = magic-long c.args.bytes.now _ (rw c.new-front.ensures at c.in_ok-frame_magic.ensures)

pub returns-in_err-body : goal.returns-in_err-body
returns-in_err-body c =
    let p = err_from_is_err_and c.from_residual-in_err-body.result c.from_residual-in_err-body.ensures.1 in
    let front = begun c.new-front.ensures c.in_ok-frame_magic.ensures c.in_ok-frame_version.ensures in
    rw (p.1, p.2) (stops c.in_err-body.field-0.0 _ _ (λ m. body-faulty _ _ _ m front) c.in_err-body.ensures)

pub returns-in-Ok : goal.returns-in-Ok
returns-in-Ok c =
    let front = begun c.new-front.ensures c.in_ok-frame_magic.ensures c.in_ok-frame_version.ensures in
    of-body front c.in_ok-body.ensures (rw c.new.ensures at c.in-Ok.ensures)

pub invariant_of-result : goal.invariant_of-result
invariant_of-result c = (frame-taken c.args.bytes.now _ (λ i. (c.type_inv.bytes i).fits) (returns-in-Ok c)).0

pub returns-in-Err-Misread : goal.returns-in-Err-Misread
returns-in-Err-Misread c =
    let front = begun c.new-front.ensures c.in_ok-frame_magic.ensures c.in_ok-frame_version.ensures in
    of-body front c.in_ok-body.ensures (rw (c.new.ensures, c.in-Err-Misread.field-0-is) at c.in-Err-Misread.ensures)

pub overflow_add-result : goal.overflow_add-result
overflow_add-result c =
    let few : length c.args.bytes.now < 2 ^ 64 = search rules in
    let inside = frame-inside c.args.bytes.now _ (returns-in-Err-Misread c) in
    omega (arith, few, inside)
