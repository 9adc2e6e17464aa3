use Rattle.std.proofs.Common.{append_assoc}
use Rattle.gd_wire.proofs.buffer.EventBytes.put_both.Goals as goal

pub returns : goal.returns
returns c = rw (c.put_stamp-2.ensures.bytes, c.put_stamp.ensures.bytes) (simp append_assoc)
