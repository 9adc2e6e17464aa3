use Rattle.std.proofs.Common.{sym, ◌∙◌}
use Rattle.gd_embed.proofs.SayingLaws.{counted, said_alone}
use Rattle.gd_embed.proofs.held.Held.take.Goals as goal

pub returns-in-Ok-Some : goal.returns-in-Ok-Some
returns-in-Ok-Some g c slow written st =
    let from = sym (c.in-Ok-Some.ensures.sender slow written st) ∙ c.in-Ok-Some.field-0-is in
    let said = said_alone c.tell.ensures (c.in-Ok-Some.ensures.said slow written st) c.no_replies-said.ensures.none in
    let stands = c.in-Ok-Some.ensures.stands slow written st in
    let count = counted said c.as_bytes.ensures c.count_of.ensures c.count_of.type_inv in
    ((c.in-Ok-Some.field-0-0, from), ((stands, said), count))

pub returns-in-Ok-None : goal.returns-in-Ok-None
returns-in-Ok-None g c slow written st =
    let from = sym (c.in-Ok-None.ensures.sender slow written st) ∙ c.in-Ok-None.field-0-is in
    let said = said_alone c.tell-in-Ok-None.ensures (c.in-Ok-None.ensures.said slow written st)
    c.no_replies-said.ensures.none in
    (from, (c.in-Ok-None.ensures.stands slow written st, said))
