-- The before-values of a card board in short, for worked rows.
use Rattle.std.specs.Prelude.{ℕ, false, List, None, Some}
use Rattle.gd_cards.specs.declared.card.Card.{Card}
use Rattle.gd_cards.specs.declared.form.Form.TheVariants.{Changes, Puts, Takes}
use Rattle.gd_cards.specs.declared.mark.Mark.TheVariants as mark
use Rattle.gd_cards.specs.declared.op.CardChange.TheVariants.{ToTitle, ToMark}
use Rattle.gd_cards.specs.CardUndoing.{CardBefore}

abbrev pub Nothing : CardBefore
Nothing = None

-- of what made its card, and of what took this one away
abbrev pub Made : CardBefore
Made = Some Takes

abbrev pub Gone : Card → CardBefore
Gone card = Some (Puts card)

-- of what found this title or column, and of a vote
abbrev pub Title : List ℕ → CardBefore
Title title = Some (Changes (ToTitle title))

abbrev pub Column : ℕ → CardBefore
Column column = Some (Changes (ToMark (mark.Column column)))

abbrev pub Voted : CardBefore
Voted = Some (Changes (ToMark (mark.Vote false)))
