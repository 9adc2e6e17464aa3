use Rattle.std.proofs.Common.{sym, ◌∙◌, refl}
use Rattle.gd_base.proofs.LabelLemmas.{IsTitle-text}
use Rattle.gd_base.proofs.title.Title.new.Goals as goal

pub invariant_of-result : goal.invariant_of-result
invariant_of-result c =
    rw c.in-Ok.ensures.ok
    (IsTitle-text c.args.text.now c.utf8.text (c.in-Ok.ensures.variant.0 refl)
    (sym c.contains_control.ensures ∙ c.if-contains_control.false))

pub returns-clause-title : goal.returns-clause-title
returns-clause-title c = (
  λ e. IsTitle-text c.args.text.now c.utf8.text (c.in-Ok.ensures.variant.0 refl)
      (sym c.contains_control.ensures ∙ c.if-contains_control.false),
  λ h. refl,
)
