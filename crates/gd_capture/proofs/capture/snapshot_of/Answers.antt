use Rattle.std.proofs.Common.{◌∙◌, ap, arith, length, subst, sym}
use Rattle.gd_slots.specs.Slots.{board_of}
use Rattle.gd_capture.proofs.Basing.{objects_are}
use Rattle.gd_capture.proofs.Capturing.{captured, entries_count, on_err}
use Rattle.gd_site.proofs.Stands.{History}
use Rattle.gd_snapshots.specs.Snapshots.{IsSnapshot}
use Rattle.gd_viewing.proofs.Good.{snapshot_good}
use Rattle.gd_capture.proofs.capture.snapshot_of.Goals as goal

pub new-requires : goal.new-requires
new-requires g c =
    let slow = c.stands.ensures.slow in
    let stands = c.stands.ensures.stands in
    let same =
    captured slow c.session.result c.me.result c.known_of.result c.in_ok-objects.objects c.in_ok-kept.kept record {
      session_is = c.session.ensures.slow slow stands;
      site_is = c.me.ensures.slow slow stands;
      known_is = c.known_of.ensures slow stands;
      objects_are = objects_are slow c.args.site.now stands c.history.result.now c.history.ensures.history
          (board_of c.in_ok-base.base) c.in_ok-base.ensures.board c.in_ok-objects.objects c.in_ok-objects.ensures;
      events_are = c.in_ok-kept.ensures slow stands;
    } in
    subst IsSnapshot (sym same) (snapshot_good slow stands.well)

pub returns-clause-snapshot : goal.returns-clause-snapshot
returns-clause-snapshot g c slow stands =
    c.new.ensures
    ∙ captured slow c.session.result c.me.result c.known_of.result c.in_ok-objects.objects c.in_ok-kept.kept record {
      session_is = c.session.ensures.slow slow stands;
      site_is = c.me.ensures.slow slow stands;
      known_is = c.known_of.ensures slow stands;
      objects_are = objects_are slow c.args.site.now stands c.history.result.now c.history.ensures.history
          (board_of c.in_ok-base.base) c.in_ok-base.ensures.board c.in_ok-objects.objects c.in_ok-objects.ensures;
      events_are = c.in_ok-kept.ensures slow stands;
    }

pub returns-clause-steps : goal.returns-clause-steps
returns-clause-steps g c slow stands =
    let count = ap (λ (h : History). length h.entries) c.history.ensures.history
    ∙ entries_count slow c.args.site.now stands in
    omega (arith, count, c.in_ok-base.ensures.steps)

pub returns-in_err-base-clause-err_steps : goal.returns-in_err-base-clause-err_steps
returns-in_err-base-clause-err_steps g c slow stands =
    let count = ap (λ (h : History). length h.entries) c.history.ensures.history
    ∙ entries_count slow c.args.site.now stands in
    on_err c.from_residual.result (omega (arith, count, c.in_err-base.ensures.err_steps))

pub returns-in_err-objects-clause-err_steps : goal.returns-in_err-objects-clause-err_steps
returns-in_err-objects-clause-err_steps g c slow stands =
    let count = ap (λ (h : History). length h.entries) c.history.ensures.history
    ∙ entries_count slow c.args.site.now stands in
    on_err c.from_residual-in_err-objects.result (omega (arith, count, c.in_ok-base.ensures.steps))

pub returns-in_err-kept-clause-err_steps : goal.returns-in_err-kept-clause-err_steps
returns-in_err-kept-clause-err_steps g c slow stands =
    let count = ap (λ (h : History). length h.entries) c.history.ensures.history
    ∙ entries_count slow c.args.site.now stands in
    on_err c.from_residual-in_err-kept.result (omega (arith, count, c.in_ok-base.ensures.steps))

pub returns-in_err-base-clause-err_rose : goal.returns-in_err-base-clause-err_rose
returns-in_err-base-clause-err_rose g c = on_err c.from_residual.result (omega (arith, c.in_err-base.ensures.err_rose))

pub returns-in_err-objects-clause-err_rose : goal.returns-in_err-objects-clause-err_rose
returns-in_err-objects-clause-err_rose g c
    = on_err c.from_residual-in_err-objects.result (omega (arith, c.in_ok-base.ensures.steps))

pub returns-in_err-kept-clause-err_rose : goal.returns-in_err-kept-clause-err_rose
returns-in_err-kept-clause-err_rose g c
    = on_err c.from_residual-in_err-kept.result (omega (arith, c.in_ok-base.ensures.steps))
