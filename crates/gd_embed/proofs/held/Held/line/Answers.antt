use Rattle.std.proofs.Common.{sym, ◌∙◌}
use Rattle.gd_embed.proofs.SayingLaws.{counted, said_alone}
use Rattle.gd_embed.proofs.held.Held.line.Goals as goal

pub returns-in-Ok-Done : goal.returns-in-Ok-Done
returns-in-Ok-Done g c slow written st =
    let taken = c.in-Ok-Done.ensures slow written st in
    let said = said_alone c.tell.ensures taken.said c.no_replies-said.ensures.none in
    let count = counted said c.as_bytes.ensures c.count_of.ensures c.count_of.type_inv in
    (sym taken.answer_is ∙ c.in-Ok-Done.field-0-is, ((taken.stands, said), count))

pub returns-in-Ok-Refused : goal.returns-in-Ok-Refused
returns-in-Ok-Refused g c slow written st =
    let taken = c.in-Ok-Refused.ensures slow written st in
    let said = said_alone c.tell-in-Ok-Refused.ensures taken.said c.no_replies-said.ensures.none in
    (sym taken.answer_is ∙ c.in-Ok-Refused.field-0-is, (taken.stands, said))

pub returns-in-Ok-Other : goal.returns-in-Ok-Other
returns-in-Ok-Other g c slow written st =
    let taken = c.in-Ok-Other.ensures slow written st in
    (sym taken.answer_is ∙ c.in-Ok-Other.field-0-is, (taken.stands, c.no_replies-said.ensures.same))
