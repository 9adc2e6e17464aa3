use Rattle.gd_embed.proofs.SayingLaws.{counted, said_alone}
use Rattle.gd_embed.proofs.held.Held.gesture.Goals as goal

pub returns-in-Ok : goal.returns-in-Ok
returns-in-Ok g c slow written st =
    let made = c.in-Ok.ensures slow written st in
    let said = said_alone c.tell.ensures made.said c.no_replies-said.ensures.none in
    ((made.stands, said), counted said c.as_bytes.ensures c.count_of.ensures c.count_of.type_inv)

pub returns-in-Err : goal.returns-in-Err
returns-in-Err g c slow written st = (c.in-Err.ensures slow written st).0
