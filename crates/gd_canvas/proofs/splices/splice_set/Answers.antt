use Rattle.gd_model.specs.Objects.{parts_of}
use Rattle.gd_canvas.specs.declared.kept.Kept.TheVariants.{Set}
use Rattle.gd_canvas.specs.Swaps.{of_swap}
use Rattle.gd_canvas.proofs.FormLemmas.{brought}
use Rattle.gd_canvas.proofs.SpliceLemmas.{set_parts, set_spliced}
use Rattle.gd_canvas.proofs.splices.splice_set.Goals as goal

pub pass_on-requires-clause-spare : goal.pass_on-requires-clause-spare
pass_on-requires-clause-spare c =
    let e = c.in-Set in
    brought c.args.spare c.args.e.now (Set e.earlier_found e.id e.earlier) e.is c.requires.spare

pub pass_on-requires-clause-parts : goal.pass_on-requires-clause-parts
pass_on-requires-clause-parts c =
    let e = c.in-Set in
    set_parts c.args.s (parts_of (of_swap c.args.later.now)) c.args.e.now e.earlier_found e.id e.earlier e.is
    c.requires.parts

pub returns-in-Set-clause-before : goal.returns-in-Set-clause-before
returns-in-Set-clause-before c = λ id k cov.
    let e = c.in-Set in
    set_spliced c.args.s id k c.args.e.now e.earlier_found c.args.is_found e.id e.earlier c.pass_on.new.earlier
    c.args.later.now c.pass_on.new.later e.is c.pass_on.ensures.first c.pass_on.ensures.second
