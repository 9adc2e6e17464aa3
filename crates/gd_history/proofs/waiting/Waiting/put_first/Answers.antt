use Rattle.std.proofs.Common.{rules}
use Rattle.std.proofs.lemmas.List.Sorted.{IsPermutation-trans, IsPermutation-cons}
use Rattle.std.proofs.lemmas.Option.{MatchOption-at_some}
use Rattle.gd_history.proofs.waiting.Waiting.put_first.Goals as goal

pub returns : goal.returns
returns c =
    let top = c.unwrap-first.result in
    let rest = MatchOption-at_some _ _ top c.unwrap-first.ensures c.peek_mut.ensures.rest in
    let put =
    IsPermutation-trans _ _ _ (IsPermutation-cons c.args.waiter _ _ rest)
    (c.drop-first.ensures.permutation (search rules)) in
    rw (← c.self.view_is) (search rules)
