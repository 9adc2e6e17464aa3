-- How large the counts of a churn can get.
use Rattle.std.specs.Prelude.{ℕ, ◌+◌, ◌*◌, ◌≤◌, ◌^◌}
use Rattle.gd_lines.specs.declared.reply.Reply.{Reply}
use Rattle.gd_lines.specs.declared.reply.Reply.TheVariants as reply
use Rattle.gd_worlds.specs.Churn.{Counts}

-- all that was counted
abbrev pub counted : Counts → ℕ
counted c =
    c.edits + c.refused + c.sent + c.delivered + c.idle + c.arrivals.applied + c.arrivals.dropped + c.arrivals.reworked

-- no more than so many were counted, and each of them undid less than 2^32 events
pub record AreFew (most : ℕ) (c : Counts) : Type 0 where
  pub all : counted c ≤ most
  pub undone : c.arrivals.undone ≤ 2 ^ 32 * most

-- so many more can be counted: a churn counts fewer than 21 millions
abbrev pub HaveRoom : ℕ → Counts → Type 0
HaveRoom more c = (most : ℕ) × AreFew most c × (most + more ≤ 21000000)

-- what is printed of all but the arrivals
abbrev pub churned_reply : Counts → Reply
churned_reply c = reply.Churned c.edits c.refused c.sent c.delivered c.idle
