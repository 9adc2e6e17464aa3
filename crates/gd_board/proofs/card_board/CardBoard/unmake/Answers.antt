use Rattle.std.proofs.Common.{ap}
use Rattle.gd_cards.specs.declared.form.Form.TheVariants.{Puts}
use Rattle.gd_slots.specs.Slots.{board_of}
use Rattle.gd_board.specs.Kept.{of_made}
use Rattle.gd_board.proofs.KeptLemmas.{none_back}
use Rattle.gd_board.proofs.card_board.CardBoard.unmake.Goals as goal

pub returns-else-is_made-clause-board : goal.returns-else-is_made-clause-board
returns-else-is_made-clause-board c new
    = none_back (board_of c.args.self.now) c.args.id (Puts new) _ (ap of_made c.if-is_made.false)
