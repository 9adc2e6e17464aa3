use Rattle.gd_view.proofs.SumLemmas.{put_sum}
use Rattle.gd_view.proofs.known.Known.put.Goals as goal

pub returns : goal.returns
returns c = put_sum c.args.self.now (record { sums = c.insert.new.self }) c.args.id c.args.sum
    c.in_ok-insert.ensures.updates.0
