use Rattle.std.proofs.Common.{◌∙◌, ◌+◌, ◌++◌, ◌∷◌, [], List, Option, sym, ap, drop, arith}
use Rattle.std.specs.Prelude.{option_map}
use Rattle.gd_base.specs.Stamps.{Stamp}
use Rattle.gd_slots.specs.Slots.{board_of}
use Rattle.gd_model.specs.Board.{listed}
use Rattle.gd_reference.specs.Judging.{Target, target, targets}
use Rattle.gd_judging.specs.declared.groups.Named.{Named}
use Rattle.gd_judging.specs.Targets.{told}
use Rattle.gd_judging.proofs.Grouping.{behind, found_all, found_none, found_next}
use Rattle.gd_judging.proofs.groups.all_named.Goals as goal

pub returns-in_err-shown : goal.returns-in_err-shown
returns-in_err-shown c =
    let look : Stamp → Option Target = target (listed (board_of c.args.canvas.now)) in
    ap (option_map (λ l. l.items)) c.from_residual.ensures
    ∙ sym (found_none look c.loop-id.all.items c.args.ids.now c.loop-id.id-index c.id-item.result c.loop-id-test.true
    c.id-item.is (sym c.in_err-shown.ensures))
    ∙ c.loop-id.invariant.found

pub loop-id-preserved : goal.loop-id-preserved
loop-id-preserved c =
    let look : Stamp → Option Target = target (listed (board_of c.args.canvas.now)) in
    record {
      found = ap (λ (l : List Named). behind l (targets look (drop (c.loop-id.id-index + 1) c.args.ids.now)))
          (c.push.ensures.items ∙ ap (λ (n : Named). c.loop-id.all.items ++ n ∷ []) c.new.ensures)
          ∙ sym (found_next look c.loop-id.all.items c.args.ids.now c.loop-id.id-index c.id-item.result
          c.loop-id-test.true c.id-item.is (told c.in_ok-shown.shown) (sym c.in_ok-shown.ensures))
          ∙ c.loop-id.invariant.found;
      taken = omega (arith, c.push.ensures.len, c.loop-id.invariant.taken);
    }

pub returns : goal.returns
returns c =
    sym (found_all (target (listed (board_of c.args.canvas.now))) c.loop-id.all.items c.args.ids.now c.loop-id.id-index
    c.loop-id-test.false)
    ∙ c.loop-id.invariant.found
