-- What is spelled of a good snapshot is bytes.
use Rattle.std.proofs.Common.{[], length, Option, None, arith}
use Rattle.std.specs.Int.{bytes_high_first}
use Rattle.gd_base.specs.Stamps.{Stamp}
use Rattle.gd_grammar.specs.Drawings.{spelling}
use Rattle.gd_grammar.specs.FieldBytes.{AreBytes, stamp_bytes, word_bytes, each_bytes}
use Rattle.gd_grammar.specs.Spelling.{object_bytes}
use Rattle.gd_grammar.proofs.ByteLemmas.{Bytes, none, one-more, both, each, two-are, four-are, six-are, stamp-are}
use Rattle.gd_grammar.proofs.ByteLemmas.{object-are, event-are}
use Rattle.gd_snapshots.specs.Snapshots.{IsPlaced, IsSnapshot, Placed, Snapshot, id_of, stamp_of}
use Rattle.gd_snapshots.specs.SnapshotBytes.{snapshot_magic, head_bytes, known_bytes, nothing_of, placed_bytes}
use Rattle.gd_snapshots.specs.SnapshotBytes.{snapshot_bytes}
use Rattle.gd_snapshots.specs.declared.known.Known.{Known}
use Rattle.gd_snapshots.proofs.ExactObject.{drawn}
use Rattle.gd_snapshots.proofs.ExactSnapshot.{KnownOf, known-follow}

known-are : (k : Known) → Bytes (known_bytes k)
known-are k = both (bytes_high_first 2 k.count) (bytes_high_first 6 k.sure) (two-are k.count) (six-are k.sure)

placed-are : (last : Option Stamp) (p : Placed) → IsPlaced last p → Bytes (placed_bytes p)
placed-are last p s = both (stamp_bytes p.0) (object_bytes p.1) (stamp-are p.0 s.id)
    (object-are None p.1 (drawn p.1 s.object))

head-are : (s : Snapshot) → IsSnapshot s → Bytes (head_bytes s)
head-are s is =
    both (word_bytes snapshot_magic) _ (four-are snapshot_magic)
    (one-more 3 _ (omega arith) (both (word_bytes s.session) _ (four-are s.session)
    (one-more s.site _ (omega (arith, is.site_below, is.few))
    (one-more (length s.known) [] (omega (arith, is.few)) none))))

whole-are : (s : Snapshot) → IsSnapshot s → Bytes (snapshot_bytes s)
unfolding snapshot_bytes
whole-are s is =
    let known = both (head_bytes s) (each_bytes known_bytes s.known) (head-are s is)
    (each KnownOf nothing_of known_bytes (λ last k _. known-are k) tt s.known (known-follow s.known is.known)) in
    let count = both _ (word_bytes (length s.objects)) known (four-are (length s.objects)) in
    let objects = both _ (each_bytes placed_bytes s.objects) count
    (each IsPlaced id_of placed_bytes placed-are None s.objects is.objects) in
    let left = both _ (word_bytes (length s.kept)) objects (four-are (length s.kept)) in
    both _ (each_bytes spelling s.kept) left
    (each _ stamp_of spelling (λ last e h. event-are e h.sound) None s.kept is.kept)

pub snapshot-are : (s : Snapshot) → IsSnapshot s → AreBytes (snapshot_bytes s)
snapshot-are s is = (whole-are s is).are
