use Rattle.std.proofs.Common.{append_assoc, rules, w32, FitsSigned}
use Rattle.std.proofs.lemmas.Int.{to_z-of_z}
use Rattle.gd_wire.proofs.buffer.EventBytes.put_link.Goals as goal

pub returns-in-Some-clause-bytes : goal.returns-in-Some-clause-bytes
returns-in-Some-clause-bytes c =
    let fx : FitsSigned w32 c.in-Some.link.dx = search rules in
    let fy : FitsSigned w32 c.in-Some.link.dy = search rules in
    rw (
      c.in-Some.is,
      c.put_signed-in-Some.ensures.bytes,
      c.put_signed.ensures.bytes,
      c.put_stamp.ensures.bytes,
      c.put_byte.ensures.bytes,
    ) (simp (to_z-of_z, append_assoc))
