use Rattle.gd_wire.proofs.FrameLemmas.{frame-put}
use Rattle.gd_wire.proofs.frame.write.write_frame.Goals as goal

pub returns : goal.returns
returns c = λ es is.
    rw (
      c.put_checksum.ensures,
      c.put-2.ensures,
      c.as_slice-2.ensures.text,
      c.put.ensures,
      c.clear.ensures,
      c.as_slice.ensures.bytes,
      c.put_byte.ensures.bytes,
      c.count.ensures,
      c.put_note.ensures.bytes,
      c.put_head.ensures.bytes,
      c.new-front.ensures,
    ) (frame-put c.args.head c.args.note.now c.args.events.now es is)
