use Rattle.std.proofs.Common.{sym, ◌∙◌}
use Rattle.gd_base.proofs.LabelLemmas.{is_text-text}
use Rattle.gd_wire.proofs.bytes.label_text.Goals as goal

pub returns-clause-plain : goal.returns-clause-plain
returns-clause-plain c =
    is_text-text c.args.bytes.now c.in-Ok.ensures.cases.1
    (rw (← c.in-Ok.ensures.cases.0) (sym c.contains_strange.ensures ∙ c.if-contains_strange.false))
