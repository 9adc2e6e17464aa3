use Rattle.std.proofs.Common.{sym, ap, ◌∙◌}
use Rattle.gd_cards.specs.declared.form.Form.TheVariants.{Changes}
use Rattle.gd_cards.specs.declared.op.CardChange.TheVariants.{ToMark}
use Rattle.gd_slots.specs.Slots.{board_of}
use Rattle.gd_board.specs.Kept.{of_mark}
use Rattle.gd_board.proofs.KeptLemmas.{none_back, other_back}
use Rattle.gd_board.proofs.card_board.CardBoard.mark_back.Goals as goal

pub returns-in-None-clause-board : goal.returns-in-None-clause-board
returns-in-None-clause-board c
    = none_back (board_of c.args.self.now) c.args.id (Changes (ToMark c.args.new)) _ (ap of_mark c.in-None.is)

pub returns-else-is_same_part-clause-board : goal.returns-else-is_same_part-clause-board
returns-else-is_same_part-clause-board c =
    other_back (board_of c.args.self.now) c.args.id (Changes (ToMark c.args.new)) (Changes (ToMark c.in-Some.old)) _
    (ap of_mark c.in-Some.is)
    (sym c.is_same_part.ensures ∙ c.if-is_same_part.false)
