use Rattle.std.proofs.Common.{rules, FitsSigned, w64, ◌∙◌}
use Rattle.std.proofs.lemmas.Int.{to_z-of_z}
use Rattle.gd_embed.proofs.Answering.{answers_changed}
use Rattle.gd_embed.specs.Telling.{WrittenIs}
use Rattle.gd_embed.proofs.gd_written.Goals as goal

pub returns : goal.returns
returns c =
    let fits : FitsSigned w64 c.code-2.result = search rules in
    answers_changed (Unit {0}) (WrittenIs c.args.count)
    c.written-answer.new.self c.written-answer.result c.in-Ok.ensures.0 c.in-Ok.ensures.1.0
    c.deref_mut.ensures.value c.written-answer.ensures c.put.ensures
    (to_z-of_z w64 c.code-2.result fits ∙ c.code-2.ensures)
