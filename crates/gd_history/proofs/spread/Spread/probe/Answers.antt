use Rattle.std.proofs.Common.{◌≡◌, ◌<◌, length, min, arith, rules}
use Rattle.gd_history.specs.Spreading.{block_end}
use Rattle.gd_history.proofs.Spreads.{next-spread, clear-spread}
use Rattle.gd_history.proofs.spread.Spread.probe.Goals as goal

pub returns : goal.returns
returns c =
    let sets = c.self.inside.sets.items in
    let at = c.set_of.result in
    let x = c.index.result.now in
    let found = c.probe-found.result in
    let key = c.args.key in
    let long : length sets ≡ 251 = c.self.invariant.1 (search rules) in
    let within : at < length sets = omega (arith, long, c.set_of.ensures.below) in
    let end : c.min.result ≡ min found.1 (block_end key) = rw c.block_end.ensures at c.min.ensures in
    record {
      behind = c.probe-found.ensures.behind;
      first =
          rw (← c.self.view_is) (next-spread sets c.self.invariant.0 key at c.set_of.ensures.value within x
          c.index.ensures c.args.floor found.0 c.probe-found.ensures.first);
      clear =
          rw (← c.self.view_is) (clear-spread sets c.self.invariant.0 key at c.set_of.ensures.value within x
          c.index.ensures c.args.floor found.1 c.min.result c.probe-found.ensures.clear end);
    }
