use Rattle.std.proofs.Common.{sym, ap, ◌∙◌}
use Rattle.gd_lines.specs.Text.{lines}
use Rattle.gd_model.specs.Drawing.{picture}
use Rattle.gd_model.specs.Shown.{items}
use Rattle.gd_options.specs.declared.format.Format.{Format}
use Rattle.gd_reference.proofs.DrawingLines.{lines_of_replies}
use Rattle.gd_reference.specs.SlowRun.{lines_as}
use Rattle.gd_log.proofs.lines.lines_of.Goals as goal

pub returns-in_ok-picture-in-Text-clause-lines : goal.returns-in_ok-picture-in-Text-clause-lines
returns-in_ok-picture-in-Text-clause-lines g c =
    ap lines c.in_ok-picture-in-Text.ensures.picture ∙ sym (lines_of_replies (items (picture c.args.events)))
    ∙ ap (λ (f : Format). lines_as f c.args.events) (sym c.in-Text.is)
