use Rattle.std.proofs.Common.{◌∙◌}
use Rattle.gd_embed.proofs.SayingLaws.{counted}
use Rattle.gd_embed.proofs.held.Held.text.Goals as goal

pub returns-in-Ok : goal.returns-in-Ok
returns-in-Ok c slow written st =
    let said = c.bytes.ensures ∙ c.in-Ok.ensures slow written st in
    ((st, said), counted said c.as_bytes.ensures c.count_of.ensures c.count_of.type_inv)
