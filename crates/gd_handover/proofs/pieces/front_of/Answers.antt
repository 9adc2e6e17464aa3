use Rattle.std.proofs.Common.{refl}
use Rattle.gd_handover.proofs.PieceLemmas.{objects_few}
use Rattle.gd_handover.proofs.pieces.front_of.Goals as goal

pub overflow_cast-objects : goal.overflow_cast-objects
overflow_cast-objects c
    = record {
      fits = rw c.objects-objects.ensures.objects
          (objects_few c.args.snapshot.now c.objects-objects.ensures.good);
    }

pub returns : goal.returns
returns c =
    rw (
      c.put_word-3.ensures.bytes,
      c.put_all_known.ensures.bytes,
      c.put_byte-3.ensures.bytes,
      c.put_byte-2.ensures.bytes,
      c.put_word-2.ensures.bytes,
      c.put_byte.ensures.bytes,
      c.put_word.ensures.bytes,
      c.new-out.ensures,
      c.session.ensures,
      c.site.ensures,
      c.known-known.ensures,
      c.objects-objects.ensures.objects,
    ) refl
