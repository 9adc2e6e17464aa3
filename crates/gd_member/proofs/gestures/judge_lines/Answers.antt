use Rattle.std.proofs.Common.{ℕ, ◌+◌, ap, arith}
use Rattle.std.proofs.lemmas.List.{drop_all}
use Rattle.gd_member.proofs.Judgings.{end_within, judged_none, judged_short, so_far_all, so_far_cut, so_far_more}
use Rattle.gd_member.proofs.Judgings.{so_far_none, some_left}
use Rattle.gd_member.specs.Gestures.{asked_in}
use Rattle.gd_takeback.specs.Making.{making}
use Rattle.gd_member.proofs.gestures.judge_lines.Goals as goal

pub lines-init : goal.lines-init
lines-init g c = record {
  judged = λ slow stands.
      so_far_none slow c.args.lines.now
      (judged_none slow (making c.args.site.now c.args.gesture.now) stands c.requires.events c.requires.back
      c.args.said.now c.args.steps.now);
  few = omega arith;
  within = omega arith;
}

pub lines-preserved : goal.lines-preserved
lines-preserved g c =
    let bytes = c.args.lines.now in
    let start = c.lines.start in
    let left = c.from.result.now in
    let line = c.first_line-line.result.now in
    let len = c.first_line-line.ensures.len in
    record {
      judged = λ slow stands.
          let s = c.lines.invariant.judged slow stands in
          so_far_more slow bytes start c.args.said.now c.args.steps.now s line left c.from.ensures
          c.first_line-line.ensures.line
          (some_left bytes left start c.from.ensures c.lines-test.true) _ (ap (λ (n : ℕ). start + (n + 1)) len)
          c.read.result c.read.ensures
          c.in_ok-count.count (making c.judge_line.new.site c.judge_line.new.gesture) c.judge_line.new.said
          c.judge_line.new.steps
          (c.in_ok-count.ensures.judged slow s.asked c.args.said.now c.args.steps.now s.judged);
      few = omega (arith, c.lines.invariant.few, c.in_ok-count.ensures.few);
      within = end_within bytes left line start c.from.ensures c.lines-test.true len;
    }

pub returns : goal.returns
returns g c slow stands =
    so_far_all slow c.args.lines.now c.lines.start c.args.said.now c.args.steps.now
    (c.lines.invariant.judged slow stands)
    (drop_all c.lines.start c.args.lines.now c.lines-test.false)

pub returns-in_err-count : goal.returns-in_err-count
returns-in_err-count g c slow stands =
    let bytes = c.args.lines.now in
    let start = c.lines.start in
    let left = c.from.result.now in
    let s = c.lines.invariant.judged slow stands in
    judged_short slow (asked_in bytes) c.from_residual.result c.from_residual.ensures.0 _ _ _ _ _
    (so_far_cut slow bytes start c.args.said.now c.args.steps.now s c.first_line-line.result.now left c.from.ensures
    c.first_line-line.ensures.line
    (some_left bytes left start c.from.ensures c.lines-test.true) c.read.result c.read.ensures c.judge_line.new.steps
    (c.in_err-count.ensures.judged slow s.asked c.args.said.now c.args.steps.now s.judged))
