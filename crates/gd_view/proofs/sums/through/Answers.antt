use Rattle.std.proofs.Common.{◌∙◌, ap}
use Rattle.gd_view.specs.Chains.{first_parent, with_link}
use Rattle.gd_view.proofs.ChainLemmas.{in_front}
use Rattle.gd_view.proofs.sums.through.Goals as goal

pub returns-clause-sum : goal.returns-clause-sum
returns-clause-sum c =
    let g = c.args.group.now in
    c.with_link.ensures.sum
    ∙ ap (λ p. with_link c.args.sum.now p c.args.link.now g)
    (c.first_parent-parent.ensures ∙ ap (λ q. first_parent q c.args.sum.now.parent) c.parent_by.ensures)
    ∙ in_front c.args.link.now g c.args.sum.now
