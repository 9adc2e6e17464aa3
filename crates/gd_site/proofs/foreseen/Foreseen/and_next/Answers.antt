use Rattle.std.proofs.Common.{◌∙◌, ap}
use Rattle.gd_base.specs.Stamps.{Stamp}
use Rattle.gd_check.specs.Checks.{check}
use Rattle.gd_site.proofs.Parting.{with_next}
use Rattle.gd_site.proofs.foreseen.Foreseen.and_next.Goals as goal

pub returns : goal.returns
returns c =
    with_next c.args.self c.args.event.now c.requires c.number.result c.clock.result c.check.result c.number.ensures
    (c.clock.ensures.value ∙ ap (λ (x : Stamp). x.clock) c.stamp.ensures)
    (c.check.ensures ∙ ap (check c.args.self.check) (c.as_slice.ensures.bytes ∙ c.write_event.ensures))
