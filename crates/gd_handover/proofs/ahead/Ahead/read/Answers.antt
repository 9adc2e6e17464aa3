use Rattle.std.proofs.Common.{◌-◌, refl, arith}
use Rattle.gd_handover.proofs.AheadLemmas.{grown-some, grown-none}
use Rattle.gd_handover.proofs.ahead.Ahead.read.Goals as goal

pub returns-in_err-count-clause-grown : goal.returns-in_err-count-clause-grown
returns-in_err-count-clause-grown g c = rw (← c.self.view_is)
    (grown-none (c.self.inside.end - c.self.inside.start) _ c.move_to_start.new.bytes c.read.new.buf _
    c.move_to_start.ensures (omega arith) c.in_err-count.ensures.failed c.in_err-count.ensures.called (λ f. refl))

pub returns-clause-grown : goal.returns-clause-grown
returns-clause-grown g c = rw (← c.self.view_is)
    (grown-some (c.self.inside.end - c.self.inside.start) _ c.in_ok-count.count c.move_to_start.new.bytes c.read.new.buf
    _ c.move_to_start.ensures (omega arith) c.in_ok-count.ensures.size c.in_ok-count.ensures.handed
    c.in_ok-count.ensures.called (λ f. f))
