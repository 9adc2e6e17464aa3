use Rattle.std.proofs.Common.{ap}
use Rattle.gd_cards.specs.declared.form.Form.TheVariants.{Takes}
use Rattle.gd_slots.specs.Slots.{board_of}
use Rattle.gd_board.specs.Kept.{of_gone}
use Rattle.gd_board.proofs.KeptLemmas.{none_back}
use Rattle.gd_board.proofs.card_board.CardBoard.put_back.Goals as goal

pub returns-in-None-clause-board : goal.returns-in-None-clause-board
returns-in-None-clause-board c = none_back (board_of c.args.self.now) c.args.id Takes _ (ap of_gone c.in-None.is)
