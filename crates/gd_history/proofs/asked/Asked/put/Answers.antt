use Rattle.std.proofs.Common.{◌<◌, length, refl, arith}
use Rattle.std.specs.Prelude.{◌==◌}
use Rattle.gd_history.specs.Waits.{is_asked}
use Rattle.gd_history.proofs.Waited.{asked-before, asked-still, near-put}
use Rattle.gd_history.proofs.asked.Asked.put.Goals as goal

pub invariant_of-self-2 : goal.invariant_of-self-2
invariant_of-self-2 c =
    let old = c.self.inside.keys.keys in
    let asked = c.insert.new.self.keys in
    let updates = c.in_ok-is_new.ensures.updates in
    let within : c.place_of-place.result < length c.self.inside.near =
    omega (arith, c.place_of-place.ensures, c.self.told) in
    near-put old asked c.self.inside.near c.place_of-place.result c.args.key c.self.invariant
    (λ k. asked-still (c.args.key == k) (is_asked old k) (is_asked asked k) (updates.0 k)) updates.1 within

pub returns-clause-kept : goal.returns-clause-kept
returns-clause-kept c k h =
    asked-still (c.args.key == k) (is_asked c.self.inside.keys.keys k) (is_asked c.insert.new.self.keys k)
    (c.in_ok-is_new.ensures.updates.0 k) (rw (← c.self.view_is) at h)

pub returns-clause-others : goal.returns-clause-others
returns-clause-others c k other h =
    rw (← c.self.view_is)
    (asked-before c.args.key k (c.args.key == k) (is_asked c.self.inside.keys.keys k)
    (is_asked c.insert.new.self.keys k)
    refl (c.in_ok-is_new.ensures.updates.0 k) other h)
