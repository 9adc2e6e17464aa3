use Rattle.gd_world.proofs.Starting.{made_more}
use Rattle.gd_world.proofs.world.new_members.Goals as goal

pub each-preserved : goal.each-preserved
each-preserved c =
    rw c.in_ok-push.ensures.items
    (made_more c.each.before c.args.n c.args.session c.each.members.items
    (record { site = c.in_ok-site.site; backs = c.new-backs.result }) c.each.invariant
    (record { site = c.in_ok-site.ensures; backs_are = c.new-backs.ensures }))
