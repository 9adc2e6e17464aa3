use Rattle.std.proofs.Common.{◌+◌, [], get_or, take, refl, sym, subst, arith}
use Rattle.std.proofs.lemmas.List.{take_all}
use Rattle.gd_history.specs.Entries.{events_of}
use Rattle.gd_history.specs.Reworks.{AreSpares}
use Rattle.gd_history.proofs.Spares.{AreSpares-none, AreSpares-more, IsSpareAt-read}
use Rattle.gd_history.proofs.rework.spares_at.Goals as goal

pub loop-at-init : goal.loop-at-init
loop-at-init g c =
    let D = g.D.Document in
    let es = events_of c.args.entries.now.items in
    subst (AreSpares D.is_spare es []) (sym c.in_ok-spares.ensures.items) (AreSpares-none D.is_spare es)

pub loop-at-preserved : goal.loop-at-preserved
loop-at-preserved g c =
    let D = g.D.Document in
    let es = events_of c.args.entries.now.items in
    let places = c.args.places.now in
    let i = c.loop-at.at-index in
    let at = get_or places i 0 in
    let here =
    IsSpareAt-read D.is_spare c.args.entries.now.items at c.get.result.now c.in_ok-spare.spare
    (c.requires i c.loop-at-test.true) c.get.ensures.element c.in_ok-spare.ensures in
    subst (AreSpares D.is_spare es (take (i + 1) places)) (sym c.in_ok-push.ensures.items)
    (AreSpares-more D.is_spare es places i at c.loop-at.spares.items c.in_ok-spare.spare c.loop-at-test.true refl
    c.loop-at.invariant here)

pub returns : goal.returns
returns g c =
    let D = g.D.Document in
    let places = c.args.places.now in
    subst (λ ps. AreSpares D.is_spare (events_of c.args.entries.now.items) ps c.loop-at.spares.items)
    (take_all c.loop-at.at-index places (omega arith)) c.loop-at.invariant
