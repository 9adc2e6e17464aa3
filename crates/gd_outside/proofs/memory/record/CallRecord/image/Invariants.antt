use Rattle.std.proofs.Common.{◌≡◌, ◌+◌, length, drop}
use Rattle.std.specs.Prelude.{fold}
use Rattle.gd_outside.specs.Records.{calls_of, first_shot, shot_after}
use Rattle.gd_outside.proofs.RecordLemmas.{marks_size}
use Rattle.gd_outside.proofs.memory.record.CallRecord.image.Given as goal

abbrev pub invariant-loop-mark : goal.invariant-loop-mark
invariant-loop-mark l =
    let marks = drop l.mark-index l.self-inside.marks.items in
    let pieces = l.self-inside.pieces.items in
    record {
      left : l.start + marks_size marks ≡ length pieces;
      shot : fold shot_after l.shot (calls_of marks (drop l.start pieces))
          ≡ fold shot_after (first_shot l.k l.fill) l.self.calls;
    }
