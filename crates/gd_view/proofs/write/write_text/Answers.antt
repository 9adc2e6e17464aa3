use Rattle.std.proofs.Common.{◌≤◌, ◌+◌, length, refl, ◌∙◌, arith}
use Rattle.gd_effects.proofs.Doing.{along_from, along_then, along_last, along_exit}
use Rattle.gd_view.proofs.WriteLemmas.{lines_from, lines_from-all, lines_from-item, lines_from-last}
use Rattle.gd_view.proofs.write.write_text.Goals as goal

pub loop-item-init : goal.loop-item-init
loop-item-init g c input journal link steps = along_from _ _ (lines_from-all c.args.picture.now)

pub returns-in_err-print-clause-does : goal.returns-in_err-print-clause-does
returns-in_err-print-clause-does g c input journal link steps =
    let is = c.args.picture.now in
    let i = c.loop-item.item-index in
    along_exit _ (lines_from (i + 1) is) c.from_residual.ensures.1 (c.loop-item.invariant input journal link steps)
    (λ t. lines_from-item i is c.as_slice-items.result.now c.item-item.result c.as_slice.result.now
    c.as_slice-items.ensures c.item-item.is (omega arith) (c.as_slice.ensures.text ∙ c.put_item.ensures))
    (c.in_err-print.ensures.does input journal link steps)

pub loop-item-preserved : goal.loop-item-preserved
loop-item-preserved g c input journal link steps =
    let is = c.args.picture.now in
    let i = c.loop-item.item-index in
    along_then (lines_from (i + 1) is) (c.loop-item.invariant input journal link steps)
    (λ t. lines_from-item i is c.as_slice-items.result.now c.item-item.result c.as_slice.result.now
    c.as_slice-items.ensures c.item-item.is (omega arith) (c.as_slice.ensures.text ∙ c.put_item.ensures))
    (c.in_ok-print.ensures.does input journal link steps)

pub returns-clause-does : goal.returns-clause-does
returns-clause-does g c input journal link steps =
    let all_of : length c.as_slice-items.result.now ≤ c.loop-item.item-index = omega arith in
    along_last (c.loop-item.invariant input journal link steps)
    (λ t. lines_from-last c.loop-item.item-index _ c.args.picture.now c.as_slice-2.result.now
    (rw c.as_slice-items.ensures at all_of) (rw c.as_slice-items.ensures refl)
    (c.as_slice-2.ensures.text ∙ c.put_end.ensures))
    (c.print-2.ensures.does input journal link steps)
