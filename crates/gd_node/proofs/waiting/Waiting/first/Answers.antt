use Rattle.std.proofs.Common.{take, sym, ap, ◌∙◌}
use Rattle.gd_node.proofs.Waits.{first_waiting}
use Rattle.gd_node.proofs.waiting.Waiting.first.Goals as goal

pub returns : goal.returns
returns c =
    let inside = c.self.invariant in
    c.as_slice.ensures.value ∙ sym (first_waiting c.self.inside.asked.items c.self.inside.over inside.0 inside.1)
    ∙ ap (take 512) c.self.view_is
