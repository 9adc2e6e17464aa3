use Rattle.std.proofs.Common.{ap}
use Rattle.gd_cards.specs.declared.form.Form.TheVariants.{Changes}
use Rattle.gd_cards.specs.declared.op.CardChange.TheVariants.{ToTitle}
use Rattle.gd_slots.specs.Slots.{board_of}
use Rattle.gd_board.specs.Kept.{of_title}
use Rattle.gd_board.proofs.KeptLemmas.{none_back}
use Rattle.gd_board.proofs.card_board.CardBoard.title_back.Goals as goal

pub returns-in-None-clause-board : goal.returns-in-None-clause-board
returns-in-None-clause-board c new
    = none_back (board_of c.args.self.now) c.args.id (Changes (ToTitle new)) _ (ap of_title c.in-None.is)
