use Rattle.std.proofs.Common.{arith}
use Rattle.std.proofs.lemmas.List.{length-append}
use Rattle.gd_grammar.specs.LookBytes.{look_bytes}
use Rattle.gd_grammar.proofs.Lengths.{look-length}
use Rattle.gd_wire.proofs.Objects.{look_put}
use Rattle.gd_wire.proofs.buffer.EventBytes.put_look.Goals as goal

pub returns-clause-bytes : goal.returns-clause-bytes
returns-clause-bytes c =
    rw (
      c.put_byte-5.ensures.bytes,
      c.align_byte.ensures,
      c.put_letters.ensures.bytes,
      c.put_byte-4.ensures.bytes,
      c.put_round.ensures.bytes,
      c.put_byte-3.ensures.bytes,
      c.heads_byte.ensures,
      c.put_byte-2.ensures.bytes,
      c.dash_byte.ensures,
      c.put_byte.ensures.bytes,
      c.put_fill.ensures.bytes,
      c.put_word.ensures.bytes,
    ) (look_put c.args.look.now c.args.self.now)

pub returns-clause-grown : goal.returns-clause-grown
returns-clause-grown c =
    rw (returns-clause-bytes c)
    (omega (arith, look-length c.args.look.now, length-append c.args.self.now (look_bytes c.args.look.now)))
