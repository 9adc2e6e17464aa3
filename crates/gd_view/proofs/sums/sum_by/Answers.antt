use Rattle.std.proofs.Common.{◌∙◌, sym, ap, Some}
use Rattle.std.specs.Prelude.{option_map, option_copied}
use Rattle.gd_model.specs.Board.{listed}
use Rattle.gd_model.specs.Shown.{above_by}
use Rattle.gd_slots.specs.Slots.{board_of}
use Rattle.gd_view.specs.Sums.{known}
use Rattle.gd_view.proofs.SumLemmas.{sum_some}
use Rattle.gd_view.proofs.sums.sum_by.Goals as goal

pub returns-in_err-sum-clause-above : goal.returns-in_err-sum-clause-above
returns-in_err-sum-clause-above c =
    let l = c.args.link.now in
    let g = c.in_ok-group.group.now in
    c.from_residual-in_err-sum.ensures
    ∙ ap (option_map (above_by l g)) (sym c.in_err-sum.was ∙ c.get.ensures)
    ∙ sum_some (listed (board_of c.args.canvas.now)) c.args.id l g (known c.args.table.now l.parent)
    (ap option_copied (sym c.in_ok-group.was) ∙ c.group_at.ensures) c.requires.greater

pub returns-clause-above : goal.returns-clause-above
returns-clause-above c =
    let l = c.args.link.now in
    let g = c.in_ok-group.group.now in
    ap Some c.through.ensures.sum
    ∙ ap (option_map (above_by l g)) (sym c.in_ok-sum.was ∙ c.get.ensures)
    ∙ sum_some (listed (board_of c.args.canvas.now)) c.args.id l g (known c.args.table.now l.parent)
    (ap option_copied (sym c.in_ok-group.was) ∙ c.group_at.ensures) c.requires.greater
