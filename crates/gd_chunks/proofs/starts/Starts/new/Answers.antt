use Rattle.gd_chunks.proofs.Summed.{summed-nil}
use Rattle.gd_chunks.proofs.starts.Starts.new.Goals as goal

pub returns : goal.returns
returns c = summed-nil c.new.result.items c.new-2.result.items c.new-2.ensures.items
