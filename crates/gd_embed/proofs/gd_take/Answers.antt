use Rattle.std.proofs.Common.{rules, FitsSigned, w64, ◌∙◌}
use Rattle.std.proofs.lemmas.Int.{to_z-of_z}
use Rattle.gd_embed.proofs.Answering.{answers_changed}
use Rattle.gd_embed.specs.Saying.{TakeIs}
use Rattle.gd_embed.proofs.gd_take.Goals as goal

pub returns : goal.returns
returns c =
    let fits : FitsSigned w64 c.code-2.result = search rules in
    answers_changed (Unit {0}) (TakeIs c.args.datagram.now)
    c.take-answer.new.self c.take-answer.result c.in-Ok.ensures.0 c.in-Ok.ensures.1.0
    c.deref_mut.ensures.value c.take-answer.ensures c.put.ensures
    (to_z-of_z w64 c.code-2.result fits ∙ c.code-2.ensures)
