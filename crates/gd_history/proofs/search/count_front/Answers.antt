use Rattle.std.proofs.Common.{◌≤◌, ◌<◌, length, rules, arith}
use Rattle.gd_history.proofs.Trimming.{leading_more, leading_end}
use Rattle.gd_history.proofs.search.count_front.Goals as goal

pub loop-count-preserved : goal.loop-count-preserved
loop-count-preserved g c =
    let x = c.index-run-count.result in
    let inside : c.loop-count.count < length c.args.run.now =
    omega (arith, c.loop-count-test.true, c.ranges) in
    let upto : x.stamp.clock ≤ c.args.line = search rules in
    record {
      within = omega arith;
      rest =
          omega (
            arith,
            c.loop-count.invariant.rest,
            leading_more c.args.line c.args.run.now c.loop-count.count x inside c.index-run-count.is upto,
          );
    }

pub returns-else-clock-line : goal.returns-else-clock-line
returns-else-clock-line g c =
    let x = c.index-run-count.result in
    let inside : c.loop-count.count < length c.args.run.now =
    omega (arith, c.loop-count-test.true, c.ranges) in
    let above : c.args.line < x.stamp.clock = search rules in
    omega (
      arith,
      c.loop-count.invariant.rest,
      leading_end c.args.line c.args.run.now c.loop-count.count x inside c.index-run-count.is above,
    )
