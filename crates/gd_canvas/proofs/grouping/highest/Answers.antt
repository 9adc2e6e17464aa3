use Rattle.std.proofs.Common.{sym, ◌∙◌}
use Rattle.gd_canvas.proofs.grouping.highest.Goals as goal

pub returns-then-are_up_to : goal.returns-then-are_up_to
returns-then-are_up_to c = sym c.are_up_to.ensures ∙ c.if-are_up_to.true
