use Rattle.std.proofs.Common.{◌≡◌, ◌∙◌, ap, subst}
use Rattle.std.specs.Prelude.{IfOk}
use Rattle.gd_canvas.specs.Slots.{Slots}
use Rattle.gd_slots.specs.Slots.{board_of}
use Rattle.gd_model.specs.Board.{listed}
use Rattle.gd_model.specs.Drawing.{Drawing}
use Rattle.gd_model.specs.Shown.{items}
use Rattle.gd_viewer.proofs.Standing.{drawing_few, drawing_is}
use Rattle.gd_viewer.proofs.viewer.Viewer.picture.Goals as goal

pub of-requires : goal.of-requires
of-requires c = rw c.document.ensures (drawing_few c.self.invariant.slow _ c.self.invariant.stands)

pub returns : goal.returns
returns c =
    rw (← c.self.view_is) (λ slow stands.
    subst (λ (d : Drawing). IfOk c.of.result (λ p. p ≡ items d))
    (ap (λ (x : Slots). listed (board_of x)) c.document.ensures ∙ drawing_is slow _ stands) c.of.ensures)
