-- What `board` does to the outside, and how it ends, by plain definitions.
--
-- The events of a log of cards arrive in its order, each for its steps. Then the cards are printed, and then it is said
-- how the events went, where that is asked for. Bytes that are no log of cards print the place and the reason of their
-- first fault.
use Rattle.std.specs.Prelude.{Bool, ℕ, List, [], ◌∷◌, ◌++◌, map, Result, Ok, Err}
use Rattle.gd_arrivals.specs.Arrivals.{costs}
use Rattle.gd_arrivals.specs.Tally.{tally}
use Rattle.gd_cards.specs.CardBytes.{cards}
use Rattle.gd_cards.specs.CardRelations.{are_independent, is_covered}
use Rattle.gd_cards.specs.CardRules.{CardEvent, card_board}
use Rattle.gd_cards.specs.CardText.{card_lines}
use Rattle.gd_effects.specs.Effects.{Effect, Print, Work}
use Rattle.gd_grammar.specs.HeaderBytes.{Header}
use Rattle.gd_grammar.specs.LogBytes.{LogMisread, log}
use Rattle.gd_grammar.specs.Reading.{place}
use Rattle.gd_lines.specs.declared.reply.Reply.TheVariants as reply
use Rattle.gd_outside.specs.declared.status.Status.{Status}
use Rattle.gd_reference.specs.Said.{says}
use Rattle.gd_reference.specs.SlowRun.{counts_lines, ended_as}

-- what is done for the events of a log
abbrev pub board_effects : Bool → List CardEvent → List Effect
board_effects counts events =
    map Work (costs are_independent is_covered events)
    ++ map Print (card_lines (card_board events))
    ++ map Print (counts_lines counts (tally are_independent is_covered events))

-- for bytes that were read so, a log of cards or none
abbrev pub boarded_as : Bool → List ℕ → Result (Header × List CardEvent) LogMisread → List Effect
boarded_as counts bytes (Ok found) = board_effects counts found.1
boarded_as counts bytes (Err fault) = says (reply.BadLog (place bytes fault.left) fault.why) ∷ []

abbrev pub boarded : Bool → List ℕ → List Effect
boarded counts bytes = boarded_as counts bytes (log cards bytes)

-- and how that ends
abbrev pub board_end : List ℕ → Status
board_end bytes = ended_as (log cards bytes)
