use Rattle.std.proofs.Common.{sym, ◌∙◌}
use Rattle.gd_canvas.proofs.TouchLemmas.{set_same}
use Rattle.gd_canvas.proofs.relations.is_set_by.Goals as goal

pub returns-then-is_same : goal.returns-then-is_same
returns-then-is_same c = λ s.
    let e = c.in-Set in
    set_same s c.args.id e.other c.args.parts.now c.args.e.now e.is_found e.swap c.have_parts_of.result e.is
    (sym c.is_same.ensures ∙ c.if-is_same.true)
    (c.have_parts_of.ensures s)
