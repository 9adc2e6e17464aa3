use Rattle.std.proofs.Common.{◌≡◌, ℕ, ◌+◌, ◌*◌, false, true, sym, ◌∙◌, ap, arith}
use Rattle.gd_world.proofs.ChurnWork.{is_done, to_all_done, to_all_front, to_all_more, to_all_none}
use Rattle.gd_world.proofs.Following.{follows_as, follows_more, gets_exit}
use Rattle.gd_worlds.specs.Churn.{rounded, rounds_to_all}
use Rattle.gd_world.proofs.churning.playing.Churning.rounds_to_all.Goals as goal

pub loop-done-init : goal.loop-done-init
loop-done-init g c lines slow before follows = follows_as _ _ _ _ _ _ _ (omega arith) (to_all_none slow) follows

pub all_hold_all-requires : goal.all_hold_all-requires
all_hold_all-requires g c =
    let r = c.requires in
    let h = c.loop-done.invariant r.0 r.1 r.2 r.3 in
    h.world.members ∙ h.sites

pub returns-then-all_hold_all : goal.returns-then-all_hold_all
returns-then-all_hold_all g c lines slow before follows =
    let h = c.loop-done.invariant lines slow before follows in
    let done : is_done (rounds_to_all c.loop-done.done slow)
    ≡ true = sym (c.all_hold_all.ensures (rounds_to_all c.loop-done.done slow).world h.world)
    ∙ c.if-all_hold_all.true in
    follows_as _ _ _ _ _ _ _ (omega arith)
    (to_all_done c.loop-done.done c.args.most slow (omega (arith, c.loop-done-test.true)) done)
    (follows_more (lines + 24 * c.args.most) (omega (arith, c.loop-done-test.true)) h)

pub round-requires : goal.round-requires
round-requires g c =
    let r = c.requires in (
      r.0 + 24 * c.loop-done.done,
      rounds_to_all c.loop-done.done r.1,
      r.2,
      c.loop-done.invariant r.0 r.1 r.2 r.3,
      omega
          (arith, r.4, c.loop-done-test.true),
    )

pub returns-in_err-round : goal.returns-in_err-round
returns-in_err-round g c lines slow before follows =
    let so_far = rounds_to_all c.loop-done.done slow in
    let h = c.loop-done.invariant lines slow before follows in
    let other : is_done so_far ≡ false = sym (c.all_hold_all.ensures so_far.world h.world) ∙ c.if-all_hold_all.false in
    gets_exit (lines + 24 * c.args.most) _ _ c.from_residual.result c.from_residual.ensures.1
    (to_all_front c.loop-done.done c.args.most slow c.loop-done-test.true other)
    (c.in_err-round.ensures (lines + 24 * c.loop-done.done) so_far before h)

pub loop-done-preserved : goal.loop-done-preserved
loop-done-preserved g c lines slow before follows =
    let so_far = rounds_to_all c.loop-done.done slow in
    let h = c.loop-done.invariant lines slow before follows in
    let other : is_done so_far ≡ false = sym (c.all_hold_all.ensures so_far.world h.world) ∙ c.if-all_hold_all.false in
    follows_as (lines + 24 * c.loop-done.done + 24) (lines + 24 * (c.loop-done.done + 1)) _ _ _ _ _ (omega arith)
    (sym (to_all_more c.loop-done.done slow other))
    (c.in_ok-round.ensures (lines + 24 * c.loop-done.done) so_far before h)

pub returns : goal.returns
returns g c lines slow before follows =
    let done : c.loop-done.done ≡ c.args.most = omega arith in
    follows_as (lines + 24 * c.loop-done.done) (lines + 24 * c.args.most) _ _ _ _ _ (omega arith)
    (ap (λ (n : ℕ). rounds_to_all n slow) done) (c.loop-done.invariant lines slow before follows)
