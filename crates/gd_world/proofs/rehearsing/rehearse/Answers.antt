use Rattle.std.proofs.Common.{[], refl}
use Rattle.gd_effects.proofs.Doing.{did_nothing, none_fell, was_told}
use Rattle.gd_reference.specs.World.{start}
use Rattle.gd_world.proofs.RehearsalEnds.{rehearsal_ends}
use Rattle.gd_world.proofs.rehearsing.rehearse.Goals as goal

pub returns-in_default-clause-ends : goal.returns-in_default-clause-ends
returns-in_default-clause-ends g c journal link = record {
  counts = none_fell _;
  cause = tt;
  unopened = tt;
  was = was_told _;
  leaves = λ t. record { front = []; back = _; split = refl; did = did_nothing _ };
}

pub returns-clause-ends : goal.returns-clause-ends
returns-clause-ends g c journal link =
    rw c.ended.ensures
    (rehearsal_ends _ _ _ _ _ _ c.answer_lines.result c.answer_lines.ensures.kinds c.args.sites _ journal link
    (c.answer_lines.ensures.runs (start c.args.sites 1) c.in-Ok.ensures))
