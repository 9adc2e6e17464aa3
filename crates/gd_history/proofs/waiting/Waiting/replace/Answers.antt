use Rattle.std.proofs.Common.{◌+◌, ◌∙◌, ap}
use Rattle.gd_history.proofs.Waited.{in_front, taken-others, taken-fewer, same-awaited, same-reached, put-awaited}
use Rattle.gd_history.proofs.Waited.{kept-awaited, put-reached, waits-from}
use Rattle.gd_history.proofs.waiting.Waiting.replace.Goals as goal

pub returns-in-Some-clause-sought : goal.returns-in-Some-clause-sought
returns-in-Some-clause-sought c pairs floor next s behind has =
    put-awaited c.args.first.key s _ _ _ c.put_first.ensures
    (waits-from c.args.first.key c.in-Some.stamp s c.args.first.guess ((rw c.in-Some.is at next) s behind has))

pub returns-in-Some-clause-others : goal.returns-in-Some-clause-others
returns-in-Some-clause-others c k s h other =
    kept-awaited k s _ _ _ c.put_first.ensures
    (taken-others k s c.args.first _ _ (in_front c.args.first _ c.requires) other h)

pub returns-in-Some-clause-fewer : goal.returns-in-Some-clause-fewer
returns-in-Some-clause-fewer c floor behind late =
    ap (λ n. n + 1) (put-reached floor _ _ _ c.put_first.ensures (rw c.in-Some.is at behind))
    ∙ taken-fewer floor c.args.first _ _ (in_front c.args.first _ c.requires) late

pub returns-in-None-clause-others : goal.returns-in-None-clause-others
returns-in-None-clause-others c k s h other =
    same-awaited k s _ _ c.take_first.ensures
    (taken-others k s c.args.first _ _ (in_front c.args.first _ c.requires) other h)

pub returns-in-None-clause-fewer : goal.returns-in-None-clause-fewer
returns-in-None-clause-fewer c floor behind late =
    ap (λ n. n + 1) (same-reached floor _ _ c.take_first.ensures)
    ∙ taken-fewer floor c.args.first _ _ (in_front c.args.first _ c.requires) late
