use Rattle.gd_words.proofs.Escapes.{full_marked, no_mark, typed_marked}
use Rattle.gd_words.proofs.spelling.push_marked.Goals as goal

pub returns-in_err-meant-clause-none : goal.returns-in_err-meant-clause-none
returns-in_err-meant-clause-none c
    = rw c.from_residual.ensures (no_mark c.args.bytes.now.items c.args.byte c.in_err-meant.ensures)

pub returns-in_err-push-clause-none : goal.returns-in_err-push-clause-none
returns-in_err-push-clause-none c =
    rw c.from_residual-in_err-push.ensures
    (full_marked c.args.bytes.now.items c.args.byte c.in_ok-meant.meant c.in_ok-meant.ensures
    c.in_err-push.ensures.full)

pub returns-clause-pushed : goal.returns-clause-pushed
returns-clause-pushed c =
    typed_marked c.args.bytes.now.items _ c.args.byte c.in_ok-meant.meant c.in_ok-meant.ensures
    c.in_ok-push.ensures.pushed
