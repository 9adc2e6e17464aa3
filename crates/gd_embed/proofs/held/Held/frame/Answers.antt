use Rattle.std.proofs.Common.{rules, FitsSigned, refl, w64, ◌∙◌}
use Rattle.std.proofs.lemmas.Int.{to_z-of_z}
use Rattle.std.proofs.lemmas.Result.{err_from_is_err_and}
use Rattle.std.specs.Prelude.{Ok, Err}
use Rattle.gd_embed.proofs.Filling.{writes_as}
use Rattle.gd_embed.proofs.Framed.{frame_fails}
use Rattle.gd_embed.proofs.held.Held.frame.Goals as goal

pub returns-in_err-count-in-Ok : goal.returns-in_err-count-in-Ok
returns-in_err-count-in-Ok c slow written st =
    let p = err_from_is_err_and c.from_residual.result c.from_residual.ensures.1 in
    let made = c.in-Ok.ensures slow written st in
    let fault = c.in_err-count-in-Ok.field-0.0 in
    frame_fails c.args.to c.args.behind.now _ slow written c.args.self.now made.1 c.from_residual.result
    p.0 fault p.1 p.2
    (writes_as c.args.out.now c.fill.new.out (Err fault) (c.as_slice.ensures.bytes ∙ made.2)
    c.in_err-count-in-Ok.ensures.fills c.in_err-count-in-Ok.ensures.needed)

pub returns-in_ok-count-in-Ok : goal.returns-in_ok-count-in-Ok
returns-in_ok-count-in-Ok c slow written st =
    let count = c.in_ok-count-in-Ok.count in
    let fits : FitsSigned w64 count = search rules in
    let made = c.in-Ok.ensures slow written st in
    let writes =
    writes_as c.args.out.now c.fill.new.out (Ok count) (c.as_slice.ensures.bytes ∙ made.2)
    c.in_ok-count-in-Ok.ensures.fills c.in_ok-count-in-Ok.ensures.needed in
    (refl, (made.1, (made.3, ((to_z-of_z w64 count fits ∙ writes.0.0, writes.0.1), writes.1))))

pub returns-in-Err-NoSuchSite : goal.returns-in-Err-NoSuchSite
returns-in-Err-NoSuchSite c slow written st =
    let said = c.in-Err-NoSuchSite.ensures slow written st in
    let fell = rw c.in-Err-NoSuchSite.field-0-is at said in
    (refl, (fell.0, (refl, refl)))

pub returns-in-Err-Unwritten : goal.returns-in-Err-Unwritten
returns-in-Err-Unwritten c slow written st =
    let said = c.in-Err-Unwritten.ensures slow written st in
    let fell = rw c.in-Err-Unwritten.field-0-is at said in
    (refl, (fell.0, (refl, refl)))
