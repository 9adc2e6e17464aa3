use Rattle.std.proofs.Common.{rules, FitsSigned, w64, ◌∙◌, ◌≡◌}
use Rattle.std.proofs.lemmas.Int.{to_z-of_z}
use Rattle.gd_embed.proofs.Answering.{answers_read}
use Rattle.gd_embed.specs.Telling.{StandingIs}
use Rattle.gd_embed.proofs.gd_status.Goals as goal

pub returns : goal.returns
returns c =
    let fits : FitsSigned w64 c.code-2.result = search rules in
    answers_read (c.standing-answer.new.out ≡ c.args.out.now)
    (StandingIs c.standing-answer.new.out) c.standing-answer.result
    c.in-Ok.ensures.0 c.in-Ok.ensures.1.0 c.deref.ensures c.standing-answer.ensures c.put.ensures
    (to_z-of_z w64 c.code-2.result fits ∙ c.code-2.ensures)
