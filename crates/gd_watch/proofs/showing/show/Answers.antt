use Rattle.std.proofs.Common.{refl, sym, ap, ◌∙◌, map}
use Rattle.gd_effects.proofs.Doing.{does_as, does_exit, does_ok}
use Rattle.gd_effects.proofs.OneRecord.{none_done}
use Rattle.gd_effects.specs.Effects.{Print}
use Rattle.gd_lines.specs.Text.{lines}
use Rattle.gd_model.specs.Shown.{items}
use Rattle.gd_outside.specs.declared.status.Status.TheVariants.{Done}
use Rattle.gd_reference.proofs.DrawingLines.{lines_of_replies}
use Rattle.gd_viewing.specs.SlowViewer.{viewed}
use Rattle.gd_watch.proofs.showing.show.Goals as goal

pub returns-in_err-picture-clause-does : goal.returns-in_err-picture-clause-does
returns-in_err-picture-clause-does g c slow stands input journal link steps
    = does_exit {U = Unit {0}} _ c.from_residual.ensures.1 (none_done input _ journal link _ refl)

pub returns-in_err-write_text-clause-does : goal.returns-in_err-write_text-clause-does
returns-in_err-write_text-clause-does g c slow stands input journal link steps =
    does_as (ap (map Print)
    (lines_of_replies (items (viewed slow)) ∙ ap lines (sym (c.in_ok-picture.ensures slow stands))))
    (does_exit {U = Unit {0}} _ c.from_residual-in_err-write_text.ensures.1
    (c.in_err-write_text.ensures.does input journal link steps))

pub returns-clause-does : goal.returns-clause-does
returns-clause-does g c slow stands input journal link steps =
    does_as (ap (map Print)
    (lines_of_replies (items (viewed slow)) ∙ ap lines (sym (c.in_ok-picture.ensures slow stands))))
    (does_ok Done (c.in_ok-write_text.ensures.does input journal link steps))
