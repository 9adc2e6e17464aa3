use Rattle.gd_words.proofs.Escapes.{full_plain, typed_plain}
use Rattle.gd_words.proofs.spelling.push_plain.Goals as goal

pub returns-in_err-push-clause-none : goal.returns-in_err-push-clause-none
returns-in_err-push-clause-none c
    = rw c.from_residual.ensures (full_plain c.args.bytes.now.items c.args.byte c.requires c.in_err-push.ensures.full)

pub returns-clause-pushed : goal.returns-clause-pushed
returns-clause-pushed c = typed_plain c.args.bytes.now.items _ c.args.byte c.requires c.in_ok-push.ensures.pushed
