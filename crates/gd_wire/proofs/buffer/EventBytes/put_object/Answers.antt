use Rattle.gd_wire.proofs.Objects.{object_put, object_most}
use Rattle.gd_wire.proofs.buffer.EventBytes.put_object.Goals as goal

pub returns-clause-bytes : goal.returns-clause-bytes
returns-clause-bytes c =
    rw (
      c.put_rank.ensures.bytes,
      c.put_flag.ensures.bytes,
      c.put_link.ensures.bytes,
      c.put_ends.ensures.bytes,
      c.put_label.ensures.bytes,
      c.as_str.ensures.text,
      c.put_look.ensures.bytes,
      c.put_form.ensures.bytes,
    ) (object_put c.args.object.now c.args.self.now)

pub returns-clause-grown : goal.returns-clause-grown
returns-clause-grown c =
    rw (returns-clause-bytes c) (object_most c.args.object.now c.args.self.now c.as_str.ensures.label.fits)
