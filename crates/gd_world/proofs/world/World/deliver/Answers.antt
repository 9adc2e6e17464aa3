use Rattle.std.proofs.Common.{◌≡◌, refl, sym, ◌∙◌, ap, subst, arith, inl}
use Rattle.std.specs.Prelude.{option_copied}
use Rattle.gd_effects.proofs.Doing.{on_ok}
use Rattle.gd_grammar.specs.declared.frame.Head.{Head}
use Rattle.gd_world.proofs.Deliveries.{delivery_comes, delivery_echoes, delivery_is, delivery_kept, handed, is_got}
use Rattle.gd_world.proofs.Deliveries.{receiver, within}
use Rattle.gd_world.proofs.MailHeld.{has_mail}
use Rattle.gd_world.proofs.Spent.{on_err}
use Rattle.gd_world.specs.Standing.{StandsFor, WorldValue}
use Rattle.gd_world.proofs.world.World.deliver.Goals as goal

pub index_mut-member-requires : goal.index_mut-member-requires
index_mut-member-requires g c =
    let v : WorldValue = record { members = c.self.inside.members.items; mail = c.self.inside.mail } in
    let f = c.in_ok-frame.frame.now in
    let got = is_got c.self.inside.mail c.args.mail f (option_copied c.get.result)
    (ap option_copied c.in_ok-frame.ensures.ok_part) c.get.ensures in
    let has = has_mail v c.args.mail f got c.self.invariant in
    let bounds = within has.world v has.stands c.args.mail f got in
    let place : c.from.result ≡ f.head.to = c.from.ensures ∙ ap (λ (head : Head). head.to) c.head.ensures.head in
    omega (arith, bounds.0, bounds.1, place, c.self.inside.members.ok.0)

pub overflow_sub-from : goal.overflow_sub-from
overflow_sub-from g c =
    let v : WorldValue = record { members = c.self.inside.members.items; mail = c.self.inside.mail } in
    let f = c.in_ok-frame.frame.now in
    let got = is_got c.self.inside.mail c.args.mail f (option_copied c.get.result)
    (ap option_copied c.in_ok-frame.ensures.ok_part) c.get.ensures in
    let has = has_mail v c.args.mail f got c.self.invariant in
    let bounds = within has.world v has.stands c.args.mail f got in
    let place : c.from.result ≡ f.head.to = c.from.ensures ∙ ap (λ (head : Head). head.to) c.head.ensures.head in
    omega (arith, bounds.0, place)

pub hear-said-requires : goal.hear-said-requires
hear-said-requires g c =
    let v : WorldValue = record { members = c.self.inside.members.items; mail = c.self.inside.mail } in
    let f = c.in_ok-frame.frame.now in
    let h = handed v c.args.mail f (option_copied c.get.result) (ap option_copied c.in_ok-frame.ensures.ok_part)
    c.get.ensures c.from.result c.head.result c.from.ensures c.head.ensures.head
    c.index_mut-member.result.now c.index_mut-member.ensures.value in
    let has = has_mail v c.args.mail f h.got c.self.invariant in (
      has.world.at f.head.to,
      receiver has.world v has.stands c.args.mail f c.from.result c.index_mut-member.result.now
          h,
    )

pub invariant_of-self-else-is_err : goal.invariant_of-self-else-is_err
invariant_of-self-else-is_err g c =
    let v : WorldValue = record { members = c.self.inside.members.items; mail = c.self.inside.mail } in
    let f = c.in_ok-frame.frame.now in
    let h = handed v c.args.mail f (option_copied c.get.result) (ap option_copied c.in_ok-frame.ensures.ok_part)
    c.get.ensures c.from.result c.head.result c.from.ensures c.head.ensures.head
    c.index_mut-member.result.now c.index_mut-member.ensures.value in
    let has = has_mail v c.args.mail f h.got c.self.invariant in
    let heard = c.hear-said.ensures (has.world.at f.head.to)
    (receiver has.world v has.stands c.args.mail f c.from.result c.index_mut-member.result.now h) in
    inl (delivery_kept has.world v has.stands c.args.mail f c.from.result c.index_mut-member.result.now h
    c.hear-said.new.member
    c.hear-said.result c.args.steps.now c.hear-said.new.steps heard (sym c.is_err.ensures.value ∙ c.if-is_err.false))

-- ---- where memory ran out

pub returns-then-is_err-clause-answer : goal.returns-then-is_err-clause-answer
returns-then-is_err-clause-answer g c w st =
    let v : WorldValue = record { members = c.self.inside.members.items; mail = c.self.inside.mail } in
    let f = c.in_ok-frame.frame.now in
    let h = handed v c.args.mail f (option_copied c.get.result) (ap option_copied c.in_ok-frame.ensures.ok_part)
    c.get.ensures c.from.result c.head.result c.from.ensures c.head.ensures.head
    c.index_mut-member.result.now c.index_mut-member.ensures.value in
    let stands : StandsFor w v = subst (StandsFor w) (sym c.self.view_is) st in
    let heard = c.hear-said.ensures (w.at f.head.to)
    (receiver w v stands c.args.mail f c.from.result c.index_mut-member.result.now h) in
    delivery_is w v stands c.args.mail f c.from.result c.index_mut-member.result.now h c.hear-said.new.member
    c.hear-said.result c.args.steps.now c.hear-said.new.steps heard

pub returns-then-is_err-clause-comes : goal.returns-then-is_err-clause-comes
returns-then-is_err-clause-comes g c w st =
    let v : WorldValue = record { members = c.self.inside.members.items; mail = c.self.inside.mail } in
    let f = c.in_ok-frame.frame.now in
    let h = handed v c.args.mail f (option_copied c.get.result) (ap option_copied c.in_ok-frame.ensures.ok_part)
    c.get.ensures c.from.result c.head.result c.from.ensures c.head.ensures.head
    c.index_mut-member.result.now c.index_mut-member.ensures.value in
    let stands : StandsFor w v = subst (StandsFor w) (sym c.self.view_is) st in
    let heard = c.hear-said.ensures (w.at f.head.to)
    (receiver w v stands c.args.mail f c.from.result c.index_mut-member.result.now h) in
    delivery_comes w v stands c.args.mail f c.from.result c.index_mut-member.result.now h c.hear-said.new.member
    c.hear-said.result c.args.steps.now c.hear-said.new.steps heard _ _
    (on_err _ c.hear-said.result (sym c.is_err.ensures.value ∙ c.if-is_err.true))

pub returns-then-is_err-clause-echoes : goal.returns-then-is_err-clause-echoes
returns-then-is_err-clause-echoes g c =
    let v : WorldValue = record { members = c.self.inside.members.items; mail = c.self.inside.mail } in
    let f = c.in_ok-frame.frame.now in
    let h = handed v c.args.mail f (option_copied c.get.result) (ap option_copied c.in_ok-frame.ensures.ok_part)
    c.get.ensures c.from.result c.head.result c.from.ensures c.head.ensures.head
    c.index_mut-member.result.now c.index_mut-member.ensures.value in
    let has = has_mail v c.args.mail f h.got c.self.invariant in
    let heard = c.hear-said.ensures (has.world.at f.head.to)
    (receiver has.world v has.stands c.args.mail f c.from.result c.index_mut-member.result.now h) in
    delivery_echoes has.world v has.stands c.args.mail f c.from.result c.index_mut-member.result.now h
    c.hear-said.new.member
    c.hear-said.result c.args.steps.now c.hear-said.new.steps heard

-- ---- where memory didn't run out

pub returns-else-is_err-clause-answer : goal.returns-else-is_err-clause-answer
returns-else-is_err-clause-answer g c w st =
    let v : WorldValue = record { members = c.self.inside.members.items; mail = c.self.inside.mail } in
    let f = c.in_ok-frame.frame.now in
    let h = handed v c.args.mail f (option_copied c.get.result) (ap option_copied c.in_ok-frame.ensures.ok_part)
    c.get.ensures c.from.result c.head.result c.from.ensures c.head.ensures.head
    c.index_mut-member.result.now c.index_mut-member.ensures.value in
    let stands : StandsFor w v = subst (StandsFor w) (sym c.self.view_is) st in
    let heard = c.hear-said.ensures (w.at f.head.to)
    (receiver w v stands c.args.mail f c.from.result c.index_mut-member.result.now h) in
    delivery_is w v stands c.args.mail f c.from.result c.index_mut-member.result.now h c.hear-said.new.member
    c.hear-said.result c.args.steps.now c.hear-said.new.steps heard

pub returns-else-is_err-clause-comes : goal.returns-else-is_err-clause-comes
returns-else-is_err-clause-comes g c w st =
    let v : WorldValue = record { members = c.self.inside.members.items; mail = c.self.inside.mail } in
    let f = c.in_ok-frame.frame.now in
    let h = handed v c.args.mail f (option_copied c.get.result) (ap option_copied c.in_ok-frame.ensures.ok_part)
    c.get.ensures c.from.result c.head.result c.from.ensures c.head.ensures.head
    c.index_mut-member.result.now c.index_mut-member.ensures.value in
    let stands : StandsFor w v = subst (StandsFor w) (sym c.self.view_is) st in
    let heard = c.hear-said.ensures (w.at f.head.to)
    (receiver w v stands c.args.mail f c.from.result c.index_mut-member.result.now h) in
    delivery_comes w v stands c.args.mail f c.from.result c.index_mut-member.result.now h c.hear-said.new.member
    c.hear-said.result c.args.steps.now c.hear-said.new.steps heard _ _ (on_ok c.hear-said.result refl)

pub returns-else-is_err-clause-echoes : goal.returns-else-is_err-clause-echoes
returns-else-is_err-clause-echoes g c =
    let v : WorldValue = record { members = c.self.inside.members.items; mail = c.self.inside.mail } in
    let f = c.in_ok-frame.frame.now in
    let h = handed v c.args.mail f (option_copied c.get.result) (ap option_copied c.in_ok-frame.ensures.ok_part)
    c.get.ensures c.from.result c.head.result c.from.ensures c.head.ensures.head
    c.index_mut-member.result.now c.index_mut-member.ensures.value in
    let has = has_mail v c.args.mail f h.got c.self.invariant in
    let heard = c.hear-said.ensures (has.world.at f.head.to)
    (receiver has.world v has.stands c.args.mail f c.from.result c.index_mut-member.result.now h) in
    delivery_echoes has.world v has.stands c.args.mail f c.from.result c.index_mut-member.result.now h
    c.hear-said.new.member
    c.hear-said.result c.args.steps.now c.hear-said.new.steps heard
