use Rattle.std.proofs.Common.{ap, sym, ◌∙◌, ◌++◌}
use Rattle.std.specs.List.{concat}
use Rattle.gd_lines.specs.Text.{lines}
use Rattle.gd_member.proofs.Printed.{printed_whole}
use Rattle.gd_model.specs.Drawing.{picture}
use Rattle.gd_model.specs.Shown.{items}
use Rattle.gd_reference.proofs.DrawingLines.{lines_of_replies}
use Rattle.gd_member.proofs.member.Member.text.Goals as goal

pub returns-in-Ok : goal.returns-in-Ok
returns-in-Ok c slow written st =
    let s = rw (← c.self.view_is) at st in
    let shown = c.in_ok-shown.ensures slow s.stands.site in
    c.into_bytes.ensures ∙ printed_whole _ _ _ c.in-Ok.ensures.does
    ∙ ap (λ old. old ++ concat (lines c.in_ok-shown.shown)) c.new-output.ensures.bytes
    ∙ ap (λ is. concat (lines is)) shown ∙ ap concat (sym (lines_of_replies (items (picture slow.held))))
