use Rattle.std.proofs.Common.{◌≡◌, map, ◌∙◌, rules}
use Rattle.gd_answers.proofs.Replies.{texts_together}
use Rattle.gd_lines.specs.Replies.{reply_text}
use Rattle.gd_answers.proofs.saying.Said.print.Goals as goal

pub returns : goal.returns
returns g c replies is =
    let same : c.as_slice.result.now ≡ c.args.self.now = search rules in
    c.print.ensures.lines (map reply_text replies) (same ∙ is ∙ texts_together replies)
