use Rattle.std.proofs.Common.{rules}
use Rattle.std.proofs.lemmas.List.Sorted.{IsPermutation-trans}
use Rattle.std.proofs.lemmas.Option.{MatchOption-at_some}
use Rattle.gd_history.proofs.waiting.Waiting.take_first.Goals as goal

pub returns : goal.returns
returns c =
    let rest = MatchOption-at_some _ _ c.unwrap.result c.unwrap.ensures c.peek_mut.ensures.rest in
    let left = IsPermutation-trans _ _ _ rest c.pop.ensures.permutation in
    rw (← c.self.view_is) (search rules)
