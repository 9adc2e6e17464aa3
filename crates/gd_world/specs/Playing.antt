-- How far a churn has come in memory, and for which churn of reference sites it stands.
use Rattle.std.specs.Prelude.{◌≡◌, ℕ, ◌+◌, ◌*◌, ◌≤◌, List, length, Result, Ok, Err}
use Rattle.std.specs.declared.alloc.AllocError.{AllocError}
use Rattle.gd_answers.specs.Paying.{PaysFront}
use Rattle.gd_effects.specs.Effects.{cost}
use Rattle.gd_lines.specs.declared.reply.Reply.{Reply}
use Rattle.gd_worlds.specs.Churn.{Churning, summary}
use Rattle.gd_world.specs.Counted.{AreFew}
use Rattle.gd_world.specs.Standing.{StandsFor}
use Rattle.gd_world.specs.declared.churning.playing.Churning.{Churning as Played}

-- It stands for a churn in which no more than so many lines were played, and idle steps made, and whose work was paid
-- in steps. A line says at most 68 things, of 67 events and of the mail that brings them, and sends at most one mail.
pub record Follows (lines : ℕ) (c : Churning) (before : ℕ) (v : Played) (steps : ℕ) : Type 0 where
  pub world : StandsFor c.world v.world
  pub sites : c.world.sites ≡ 4
  pub generator : v.generator ≡ c.generator
  pub made : v.made.items ≡ c.made
  pub counts : v.counts ≡ c.counts
  pub mail : length v.world.mail ≤ lines
  pub kept : length v.made.items ≤ 68 * lines
  pub few : AreFew (68 * lines) v.counts
  pub paid : steps ≡ before + cost c.work

-- it has come so far that so many lines more can be played
abbrev pub IsReady : ℕ → Played → ℕ → Type 0
IsReady more v steps = (lines : ℕ) × (c : Churning) × (before : ℕ) × Follows lines c before v steps
    × (lines + more ≤ 300000)

-- a call brought it there; or memory ran out, and of all the work a part was paid
abbrev pub Gets : {T : Type 0} → ℕ → Churning → ℕ → Result T AllocError → Played → ℕ → Type 0
Gets lines c before (Ok value) v steps = Follows lines c before v steps
Gets lines c before (Err e) v steps = PaysFront before c.work steps

-- a churn was played to its end, of which this is said
abbrev pub Plays : Churning → Result (List Reply) AllocError → ℕ → ℕ → Type 0
Plays c (Ok replies) before after = (replies ≡ summary c.world c.counts) × (after ≡ before + cost c.work)
Plays c (Err e) before after = PaysFront before c.work after
