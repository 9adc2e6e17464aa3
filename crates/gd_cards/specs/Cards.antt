-- Cards, their parts, and what changes them. 0 stands for the whole of a card, 1 for its title, and each mark has its
-- part.
use Rattle.std.specs.Prelude.{ℕ, ◌+◌, ◌-◌, ◌^◌, ◌%◌, Bool, not, ◌&&◌, nat_le, nat_lt, if◌then◌else◌, List, Option, None}
use Rattle.std.specs.Prelude.{Some}
use Rattle.gd_cards.specs.declared.card.Card.{Card}
use Rattle.gd_cards.specs.declared.mark.Mark.{Mark}
use Rattle.gd_cards.specs.declared.mark.Mark.TheVariants.{Column, Vote}
use Rattle.gd_cards.specs.declared.mark.TheConstants.{COLUMNS}
use Rattle.gd_cards.specs.declared.op.CardChange as over
use Rattle.gd_cards.specs.declared.op.CardChange.TheVariants.{ToTitle, ToMark}
use Rattle.gd_cards.specs.Ops.{CardChange}

-- a card without votes
abbrev pub new_card : ℕ → List ℕ → Card
new_card column title = record { title = title; column = column; votes = 0 }

-- ---- marks

-- the number of a column
abbrev pub is_column : ℕ → Bool
is_column column = nat_le 1 column && nat_le column COLUMNS

-- whether an operation may put it: a vote is taken away by none
abbrev pub is_mark : Mark → Bool
is_mark (Column column) = is_column column
is_mark (Vote up) = up

-- the number of its part, and the byte of its value, where it has one
abbrev pub coded : Mark → ℕ × Option ℕ
coded (Column column) = (2, Some column)
coded (Vote up) = (3, None)

-- So many votes more, round 2^32: 2^32 - 1 is the greatest number of votes that a card has. A greater one stays.
unfoldable pub shifted : ℕ → ℕ → ℕ
shifted n votes = if nat_lt votes (2 ^ 32) then (votes + n) % 2 ^ 32 else votes

abbrev pub one_more : ℕ → ℕ
one_more = shifted 1

abbrev pub one_less : ℕ → ℕ
one_less = shifted (2 ^ 32 - 1)

abbrev pub counted : Bool → ℕ → ℕ
counted up votes = if up then one_more votes else one_less votes

-- the mark that puts back what stands in the card, and the card with the mark
abbrev pub exchanged : Mark → Card → Mark × Card
exchanged (Column column) card = (Column card.column, record card { column = column })
exchanged (Vote up) card = (Vote (not up), record card { votes = counted up card.votes })

-- ---- changes

-- the part that a change is for
abbrev pub part_of : {L : Type 0} → over.CardChange L → ℕ
part_of (ToTitle title) = 1
part_of (ToMark mark) = (coded mark).0

-- the card with the change
abbrev pub put : CardChange → Card → Card
put (ToTitle title) card = record card { title = title }
put (ToMark mark) card = (exchanged mark card).1

-- the change that puts back what stands in the card
abbrev pub old : CardChange → Card → CardChange
old (ToTitle title) card = ToTitle card.title
old (ToMark mark) card = ToMark (exchanged mark card).0
