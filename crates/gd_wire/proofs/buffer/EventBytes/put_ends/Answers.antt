use Rattle.std.proofs.Common.{append_assoc}
use Rattle.gd_wire.proofs.buffer.EventBytes.put_ends.Goals as goal

pub returns-in-Some-clause-bytes : goal.returns-in-Some-clause-bytes
returns-in-Some-clause-bytes c =
    rw (c.in-Some.is, c.put_stamp-in-Some.ensures.bytes, c.put_stamp.ensures.bytes, c.put_byte.ensures.bytes)
    (simp append_assoc)
