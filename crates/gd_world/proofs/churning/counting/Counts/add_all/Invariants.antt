use Rattle.std.proofs.Common.{◌≡◌, ℕ, ◌+◌, fold, take}
use Rattle.gd_world.specs.Counted.{AreFew}
use Rattle.gd_worlds.specs.Churn.{with_reply}
use Rattle.gd_world.proofs.churning.counting.Counts.add_all.Given as goal

abbrev pub invariant-loop-reply : goal.invariant-loop-reply
invariant-loop-reply l = record {
  counted : l.self ≡ fold with_reply l.initial.self (take l.reply-index l.replies);
  few : (most : ℕ) → AreFew most l.initial.self → AreFew (most + l.reply-index) l.self;
}
