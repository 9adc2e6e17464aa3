use Rattle.std.proofs.Common.{ap}
use Rattle.std.specs.Prelude.{Err}
use Rattle.gd_program.proofs.Carried.{carried_not, headline, headline_for}
use Rattle.gd_program.proofs.running.run.Goals as goal

pub returns-in-Ok : goal.returns-in-Ok
returns-in-Ok g c = headline_for _ c.in-Ok.ensures.asked c.carry_out.ensures

pub returns-in-Err-Usage : goal.returns-in-Err-Usage
returns-in-Err-Usage g c =
    headline_for _ (c.in-Err-Usage.ensures.usage (ap Err c.in-Err-Usage.field-0-is)) (c.refuse.ensures _ _ _ _)

pub returns-in-Err-NoMemory : goal.returns-in-Err-NoMemory
returns-in-Err-NoMemory g c = headline _ (carried_not _ _)
