use Rattle.std.proofs.Common.{append_assoc, rules, w32, FitsSigned}
use Rattle.std.proofs.lemmas.Int.{to_z-of_z}
use Rattle.gd_wire.proofs.buffer.EventBytes.put_form.Goals as goal

pub returns-clause-bytes : goal.returns-clause-bytes
returns-clause-bytes c =
    let fx : FitsSigned w32 c.args.object.now.x = search rules in
    let fy : FitsSigned w32 c.args.object.now.y = search rules in
    let fw : FitsSigned w32 c.args.object.now.w = search rules in
    let fh : FitsSigned w32 c.args.object.now.h = search rules in
    rw (
      c.put_signed-4.ensures.bytes,
      c.put_signed-3.ensures.bytes,
      c.put_signed-2.ensures.bytes,
      c.put_signed.ensures.bytes,
      c.put_kind.ensures.bytes,
    ) (simp (to_z-of_z, append_assoc))
