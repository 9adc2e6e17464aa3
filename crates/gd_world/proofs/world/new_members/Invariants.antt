use Rattle.gd_world.proofs.Starting.{AreMade}
use Rattle.gd_world.proofs.world.new_members.Given as goal

abbrev pub invariant-each : goal.invariant-each
invariant-each l = AreMade l.before l.n l.session l.members.items
