use Rattle.std.proofs.Common.{refl, sym, ◌∙◌, subst, inl}
use Rattle.gd_effects.proofs.Doing.{on_ok}
use Rattle.gd_world.proofs.Lines.{asked_stands, line_comes, line_is, line_kept}
use Rattle.gd_world.proofs.Spent.{has_site, on_err}
use Rattle.gd_world.specs.Standing.{StandsFor}
use Rattle.gd_world.proofs.world.World.line.Goals as goal

pub invariant_of-self-else-is_err : goal.invariant_of-self-else-is_err
invariant_of-self-else-is_err g c =
    let inside = sym c.is_site.ensures ∙ c.if-not-is_site.false in
    let i = has_site _ c.args.self.now c.self.view_is c.args.site inside c.self.invariant in
    let told = c.tell-told.ensures (i.world.at c.args.site)
    (asked_stands i.world _ c.args.self.now c.self.view_is i.stands c.args.site inside
    c.args.command.now c.requires c.from.result c.from.ensures c.index_mut-member.result.now
    c.index_mut-member.ensures.value) in
    inl (line_kept i.world _ c.args.self.now c.self.view_is i.stands c.args.site inside
    c.args.command.now c.requires c.from.result c.from.ensures c.index_mut-member.result.now
    c.index_mut-member.ensures.value
    c.tell-told.new.member c.tell-told.result c.args.steps.now c.tell-told.new.steps told
    (sym c.is_err.ensures.value ∙ c.if-is_err.false))

-- ---- where memory ran out

pub returns-then-is_err-clause-answer : goal.returns-then-is_err-clause-answer
returns-then-is_err-clause-answer g c w st =
    let inside = sym c.is_site.ensures ∙ c.if-not-is_site.false in
    let stands = subst (StandsFor w) (sym c.self.view_is) st in
    let told = c.tell-told.ensures (w.at c.args.site)
    (asked_stands w _ c.args.self.now c.self.view_is stands c.args.site inside
    c.args.command.now c.requires c.from.result c.from.ensures c.index_mut-member.result.now
    c.index_mut-member.ensures.value) in
    line_is w _ c.args.self.now c.self.view_is stands c.args.site inside
    c.args.command.now c.requires c.from.result c.from.ensures c.index_mut-member.result.now
    c.index_mut-member.ensures.value
    c.tell-told.new.member c.tell-told.result c.args.steps.now c.tell-told.new.steps told

pub returns-then-is_err-clause-comes : goal.returns-then-is_err-clause-comes
returns-then-is_err-clause-comes g c w st =
    let inside = sym c.is_site.ensures ∙ c.if-not-is_site.false in
    let stands = subst (StandsFor w) (sym c.self.view_is) st in
    let told = c.tell-told.ensures (w.at c.args.site)
    (asked_stands w _ c.args.self.now c.self.view_is stands c.args.site inside
    c.args.command.now c.requires c.from.result c.from.ensures c.index_mut-member.result.now
    c.index_mut-member.ensures.value) in
    line_comes w _ c.args.self.now c.self.view_is stands c.args.site inside
    c.args.command.now c.requires c.from.result c.from.ensures c.index_mut-member.result.now
    c.index_mut-member.ensures.value
    c.tell-told.new.member c.tell-told.result c.args.steps.now c.tell-told.new.steps told _
    (on_err _ c.tell-told.result (sym c.is_err.ensures.value ∙ c.if-is_err.true))

-- ---- where it didn't

pub returns-else-is_err-clause-answer : goal.returns-else-is_err-clause-answer
returns-else-is_err-clause-answer g c w st =
    let inside = sym c.is_site.ensures ∙ c.if-not-is_site.false in
    let stands = subst (StandsFor w) (sym c.self.view_is) st in
    let told = c.tell-told.ensures (w.at c.args.site)
    (asked_stands w _ c.args.self.now c.self.view_is stands c.args.site inside
    c.args.command.now c.requires c.from.result c.from.ensures c.index_mut-member.result.now
    c.index_mut-member.ensures.value) in
    line_is w _ c.args.self.now c.self.view_is stands c.args.site inside
    c.args.command.now c.requires c.from.result c.from.ensures c.index_mut-member.result.now
    c.index_mut-member.ensures.value
    c.tell-told.new.member c.tell-told.result c.args.steps.now c.tell-told.new.steps told

pub returns-else-is_err-clause-comes : goal.returns-else-is_err-clause-comes
returns-else-is_err-clause-comes g c w st =
    let inside = sym c.is_site.ensures ∙ c.if-not-is_site.false in
    let stands = subst (StandsFor w) (sym c.self.view_is) st in
    let told = c.tell-told.ensures (w.at c.args.site)
    (asked_stands w _ c.args.self.now c.self.view_is stands c.args.site inside
    c.args.command.now c.requires c.from.result c.from.ensures c.index_mut-member.result.now
    c.index_mut-member.ensures.value) in
    line_comes w _ c.args.self.now c.self.view_is stands c.args.site inside
    c.args.command.now c.requires c.from.result c.from.ensures c.index_mut-member.result.now
    c.index_mut-member.ensures.value
    c.tell-told.new.member c.tell-told.result c.args.steps.now c.tell-told.new.steps told _
    (on_ok c.tell-told.result refl)
