use Rattle.gd_wire.proofs.Objects.{looks_put}
use Rattle.gd_wire.proofs.buffer.EventBytes.put_all_looks.Goals as goal

pub returns : goal.returns
returns c =
    rw (
      c.put_set_align.ensures.bytes,
      c.put_set_letters.ensures.bytes,
      c.put_set_byte-2.ensures.bytes,
      c.put_set_round.ensures.bytes,
      c.put_set_heads.ensures.bytes,
      c.put_set_dash.ensures.bytes,
      c.put_set_byte.ensures.bytes,
      c.put_set_fill.ensures.bytes,
      c.put_set_word.ensures.bytes,
    ) (looks_put c.args.looks.now c.args.self.now)
