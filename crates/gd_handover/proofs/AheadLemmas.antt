-- What is ahead grows by what is read behind it.
use Rattle.std.proofs.Common.{◌≡◌, ℕ, ◌+◌, ◌-◌, ◌≤◌, List, [], length, take, drop, refl, arith}
use borrow.Rule.Slice.PartMut.{put_mid}
use Rattle.std.proofs.lemmas.List.{append-nil}
use Rattle.gd_logs.proofs.StreamLemmas.{take-put, take-unread}
use Rattle.gd_outside.specs.Called.{SourceCalled}
use Rattle.gd_outside.specs.Seen.{SeenSource}
use Rattle.gd_outside.specs.Told.{HandsOut}
use Rattle.gd_handover.specs.Parts.{Grown}

-- the first n bytes were those ahead, and a read put some behind them
pub grown-some : (n k count : ℕ) (bytes buf old : List ℕ) {F G : Type 0} {before after : SeenSource}
    → take n bytes ≡ old → n ≤ length bytes → count ≤ length buf
    → HandsOut before.left (take count buf) after.left → SourceCalled before after F → (G → F)
    → Grown old (take (n + count - 0) (drop 0 (put_mid n k bytes buf))) before after G
grown-some n k count bytes buf old is within fits handed called failed =
    let all : n + count - 0 ≡ n + count = omega arith in
    record {
      called = record {
        taken = take count buf;
        handed = handed;
        count = called.count;
        cause
            = λ g. called.cause (failed g);
      };
      is = rw (all, take-put n k count bytes buf within fits, is) refl;
    }

-- the read failed, or came to the end
pub grown-none : (n k : ℕ) (bytes buf old : List ℕ) {F G : Type 0} {before after : SeenSource} → take n bytes ≡ old
    → n ≤ length bytes
    → HandsOut before.left [] after.left → SourceCalled before after F → (G → F)
    → Grown old (take (n - 0) (drop 0 (put_mid n k bytes buf))) before after G
grown-none n k bytes buf old is within handed called failed =
    let all : n - 0 ≡ n = omega arith in
    record {
      called = record { taken = []; handed = handed; count = called.count; cause = λ g. called.cause (failed g) };
      is = rw (all, take-unread n k bytes buf within, is, append-nil) refl;
    }

-- the same where a failure is told in other words
pub grown-as : {old new : List ℕ} {before after : SeenSource} {F G : Type 0} → (G → F) → Grown old new before after F
    → Grown old new before after G
grown-as f h = record {
  called = record {
    taken = h.called.taken;
    handed = h.called.handed;
    count = h.called.count;
    cause
        = λ failed. h.called.cause (f failed);
  };
  is = h.is;
}
