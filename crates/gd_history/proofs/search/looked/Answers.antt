use Rattle.std.proofs.Common.{rules, ◌≡◌, ◌+◌, ◌<◌, length, get_or, ap, sym, ◌∙◌, arith}
use Rattle.gd_base.specs.Stamps.{is_before}
use Rattle.gd_history.proofs.Ahead.{run_read}
use Rattle.gd_history.proofs.Halving.{halved}
use Rattle.gd_history.proofs.search.looked.Goals as goal

pub returns-then-first-left : goal.returns-then-first-left
returns-then-first-left g c =
    let entries = c.args.entries.now.items in
    let first = c.part-first.result.0 in
    let part = c.part-first.result.1.now in
    let some : 0 < length part = search rules in
    let entry = c.index-part-0.result in
    let at : first + 0 ≡ first = omega arith in
    let read =
    c.index-part-0.is ∙ sym (run_read c.args.stamp entries part first c.part-first.ensures 0 some entry)
    ∙ ap (λ n. get_or entries n entry) at in
    let low = c.if-left-first.true in
    let high = c.if-first-left.true in
    halved c.args.stamp entries c.requires.rising c.args.left.low c.args.left.high first c.requires.was (omega arith)
    (omega arith) entry read c.is_before-later.result
    (c.is_before-later.ensures ∙ ap (is_before c.args.stamp) c.stamp.ensures) c.narrowed.result c.narrowed.ensures
