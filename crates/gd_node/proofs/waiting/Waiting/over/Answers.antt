use Rattle.std.proofs.Common.{◌++◌, List, sym, ap}
use Rattle.std.specs.Prelude.{Err, replicate}
use Rattle.gd_base.specs.declared.refusal.Refusal.TheVariants.{GestureFull}
use Rattle.gd_node.proofs.Waits.{first_waiting}
use Rattle.gd_reference.specs.TakeBack.{Asked}
use Rattle.gd_node.proofs.waiting.Waiting.over.Goals as goal

pub returns : goal.returns
returns c =
    let inside = c.self.invariant in
    rw (← c.self.view_is)
    (ap (λ (l : List Asked). l ++ replicate c.self.inside.over (Err GestureFull))
    (sym (first_waiting c.self.inside.asked.items c.self.inside.over inside.0 inside.1)))
