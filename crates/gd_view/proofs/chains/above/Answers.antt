use Rattle.std.proofs.Common.{◌∙◌}
use Rattle.gd_base.specs.declared.ranges.TheConstants.{SESSION_EVENTS}
use Rattle.gd_model.specs.Board.{listed}
use Rattle.gd_drawing.proofs.Chains.{above-enough}
use Rattle.gd_slots.specs.Slots.{board_of}
use Rattle.gd_view.proofs.chains.above.Goals as goal

pub returns-clause-above : goal.returns-clause-above
returns-clause-above c = c.above_within.ensures.above
    ∙ above-enough SESSION_EVENTS (listed (board_of c.args.canvas.now)) c.args.id c.args.link c.requires
