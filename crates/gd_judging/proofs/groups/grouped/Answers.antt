use Rattle.std.proofs.Common.{◌∙◌, sym, Some, None}
use Rattle.gd_judging.proofs.Grouping.{group_same, group_nested, group_made}
use Rattle.gd_judging.proofs.groups.grouped.Goals as goal

pub returns-then-not-are_apart : goal.returns-then-not-are_apart
returns-then-not-are_apart c
    = λ ts e. group_same c.args.named.now ts e (sym c.are_apart.ensures ∙ c.if-not-are_apart.true)

pub returns-then-not-are_free : goal.returns-then-not-are_free
returns-then-not-are_free c = λ ts e.
    group_nested c.args.named.now ts e (sym c.are_apart.ensures ∙ c.if-not-are_apart.false)
    (sym c.are_free.ensures ∙ c.if-not-are_free.true)

pub returns-in-Some : goal.returns-in-Some
returns-in-Some c = λ ts e.
    group_made c.args.named.now ts e (Some c.in-Some.members) (sym c.are_apart.ensures ∙ c.if-not-are_apart.false)
    (sym c.are_free.ensures ∙ c.if-not-are_free.false) (sym c.rising.ensures ∙ c.in-Some.is)

pub returns-in-None : goal.returns-in-None
returns-in-None c = λ ts e.
    group_made c.args.named.now ts e None (sym c.are_apart.ensures ∙ c.if-not-are_apart.false)
    (sym c.are_free.ensures ∙ c.if-not-are_free.false) (sym c.rising.ensures ∙ c.in-None.is)
