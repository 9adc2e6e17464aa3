use Rattle.std.proofs.Common.{◌≡◌, ap, ◌∙◌, arith}
use Rattle.std.specs.FinMap as map_of
use Rattle.gd_model.specs.Board.{Board, board, listed}
use Rattle.gd_model.specs.Shown.{items}
use Rattle.gd_drawing.proofs.Sizes.{board-len}
use Rattle.gd_slots.specs.Slots.{board_of}
use Rattle.gd_log.proofs.ReplayLemmas.{drawing_of, shown-items}
use Rattle.gd_log.proofs.lines.drawn.Goals as goal

pub of-requires : goal.of-requires
of-requires g c =
    let same : board_of c.document.result.now ≡ board c.args.events = ap board_of c.document.ensures
    ∙ drawing_of c.args.events _ c.in_ok-history.ensures.history in
    omega (arith, ap (λ (b : Board). map_of.len b) same, board-len c.args.events)

pub returns-clause-picture : goal.returns-clause-picture
returns-clause-picture g c =
    c.in_ok-picture.ensures
    ∙ ap (λ (b : Board). items (listed b))
    (ap board_of c.document.ensures ∙ drawing_of c.args.events _ c.in_ok-history.ensures.history)
    ∙ shown-items c.args.events
