use Rattle.std.proofs.Common.{rules, ◌<◌, ◌^◌, inl}
use Rattle.gd_reference.specs.World.{start}
use Rattle.gd_world.proofs.Starting.{stands_new}
use Rattle.gd_world.proofs.world.World.new.Goals as goal

pub invariant_of-result : goal.invariant_of-result
invariant_of-result c =
    let ranged : c.args.session < 2 ^ 32 = search rules in
    inl (record {
      world = start c.args.n c.args.session;
      stands = rw c.new.ensures
          (stands_new c.args.n c.args.session c.in_ok-members.members.items c.requires.from c.requires.to ranged
          c.in_ok-members.ensures);
    })

pub returns : goal.returns
returns c =
    let ranged : c.args.session < 2 ^ 32 = search rules in
    rw c.new.ensures (stands_new c.args.n c.args.session c.in_ok-members.members.items c.requires.from c.requires.to
    ranged c.in_ok-members.ensures)
