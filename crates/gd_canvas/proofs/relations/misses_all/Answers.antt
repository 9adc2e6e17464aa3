use Rattle.std.proofs.Common.{not, true, ap, ◌∙◌, arith}
use Rattle.std.specs.Prelude.{option_map, unwrap_or}
use Rattle.gd_model.specs.Relations.{Touch, meets, touches}
use Rattle.gd_canvas.specs.Kept.{op_of}
use Rattle.gd_canvas.proofs.TouchLemmas.{passed, failed, ended}
use Rattle.gd_canvas.proofs.relations.misses_all.Goals as goal

pub loop-place-preserved : goal.loop-place-preserved
loop-place-preserved c =
    let test = λ (u : Touch). not (meets (c.args.id, c.args.part) u) in
    passed test (touches c.args.t (op_of c.args.f.now)) c.loop-place.place c.misses_one.result
    (c.misses_one.ensures ∙ ap (λ x. unwrap_or (option_map test x) true) c.touch_at.ensures) c.if-not-misses_one.false
    c.loop-place.invariant

pub returns-then-not-misses_one : goal.returns-then-not-misses_one
returns-then-not-misses_one c =
    let test = λ (u : Touch). not (meets (c.args.id, c.args.part) u) in
    failed test (touches c.args.t (op_of c.args.f.now)) c.loop-place.place c.misses_one.result
    (c.misses_one.ensures ∙ ap (λ x. unwrap_or (option_map test x) true) c.touch_at.ensures) c.if-not-misses_one.true
    c.loop-place.invariant

pub returns : goal.returns
returns c =
    ended (λ (u : Touch). not (meets (c.args.id, c.args.part) u)) (touches c.args.t (op_of c.args.f.now))
    c.loop-place.place
    (omega (arith, c.loop-place-test.false, c.touch_count-place-end.ensures.count)) c.loop-place.invariant
