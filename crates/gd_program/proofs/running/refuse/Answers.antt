use Rattle.std.proofs.Common.{◌∙◌}
use Rattle.gd_program.proofs.Carried.{carried_refused}
use Rattle.gd_program.proofs.running.refuse.Goals as goal

pub returns : goal.returns
returns g c = λ input journal link steps.
    rw c.status_of.ensures
    (carried_refused _ c.print.result (c.as_slice.ensures.text ∙ c.text-line.ensures) c.print.ensures.end
    c.print.ensures.does input journal link steps)
