use Rattle.std.proofs.Common.{rules, ◌≢◌, arith, sym, ◌∙◌, subst, inl}
use Rattle.gd_world.proofs.Spent.{has_site}
use Rattle.gd_world.proofs.Sends.{receiver_is_other, sent_stands}
use Rattle.gd_world.specs.Standing.{StandsFor}
use Rattle.gd_world.proofs.world.World.send.Goals as goal

pub frame_for-requires : goal.frame_for-requires
frame_for-requires c =
    let i = has_site _ c.args.self.now c.self.view_is c.args.from (sym c.is_site.ensures ∙ c.if-not-is_site.false)
    c.self.invariant in
    let apart : c.args.from ≢ c.args.to = search rules in
    let other = receiver_is_other i.world _ c.args.self.now c.self.view_is i.stands c.args.from c.args.to
    (sym c.is_site.ensures ∙ c.if-not-is_site.false)
    (sym c.is_site-else-not-is_site.ensures ∙ c.if-not-is_site-2.false) apart c.from.result c.from.ensures
    c.index.result.now c.index.ensures in
    record { from = other.0; to = other.1; other = other.2 }

pub invariant_of-self : goal.invariant_of-self
invariant_of-self c = rw c.in_err-push.ensures.err c.self.invariant

pub invariant_of-self-2 : goal.invariant_of-self-2
invariant_of-self-2 c =
    let i = has_site _ c.args.self.now c.self.view_is c.args.from (sym c.is_site.ensures ∙ c.if-not-is_site.false)
    c.self.invariant in
    let apart : c.args.from ≢ c.args.to = search rules in
    inl (record {
      world = _;
      stands = sent_stands i.world _ c.args.self.now c.self.view_is i.stands c.args.from c.args.to
          (sym c.is_site.ensures ∙ c.if-not-is_site.false)
          (sym c.is_site-else-not-is_site.ensures ∙ c.if-not-is_site-2.false) apart c.from.result c.from.ensures
          c.index.result.now c.index.ensures
          c.in_ok-frame.frame c.in_ok-frame.ensures _ c.in_ok-push.ensures.ok;
    })

pub returns-clause-comes : goal.returns-clause-comes
returns-clause-comes c w st steps =
    let apart : c.args.from ≢ c.args.to = search rules in (
      sent_stands w _ c.args.self.now c.self.view_is (subst (StandsFor w) (sym c.self.view_is) st) c.args.from c.args.to
          (sym c.is_site.ensures ∙ c.if-not-is_site.false)
          (sym c.is_site-else-not-is_site.ensures ∙ c.if-not-is_site-2.false) apart c.from.result c.from.ensures
          c.index.result.now c.index.ensures
          c.in_ok-frame.frame c.in_ok-frame.ensures _ c.in_ok-push.ensures.ok,
      omega arith,
    )
