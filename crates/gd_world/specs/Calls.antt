-- What a call of a world costs, and what it leaves.
use Rattle.std.specs.Prelude.{◌≡◌, ℕ, ◌+◌, List, [], ◌∷◌, Result, Ok, Err}
use Rattle.gd_answers.specs.Paying.{PaysFront}
use Rattle.gd_base.specs.declared.refusal.Refusal.TheVariants as refusal
use Rattle.gd_effects.specs.Effects.{Effect, cost}
use Rattle.gd_lines.specs.InRange.{IsCommand}
use Rattle.gd_lines.specs.declared.command.ScriptLine.{ScriptLine}
use Rattle.gd_lines.specs.declared.command.ScriptLine.TheVariants as script
use Rattle.gd_lines.specs.declared.reply.Reply.{Reply}
use Rattle.gd_lines.specs.declared.reply.Reply.TheVariants as reply
use Rattle.gd_reference.specs.World.{World}
use Rattle.gd_world.specs.Standing.{StandsFor, WorldValue}
use Rattle.gd_world.specs.declared.fault.WorldFault.{WorldFault}
use Rattle.gd_world.specs.declared.fault.WorldFault.TheVariants.{NoSite, NoMail, NoMemory}
use Rattle.gd_worlds.specs.Rehearsal.{after_script, script_replies, script_work}

-- All of them where the call goes through; and then the world stands for `then`. A refusal changes nothing, and takes
-- no steps. Where memory ran out, a part of the steps were taken, and of the world no more is said.
abbrev pub Comes : {T : Type 0} → World → List Effect → Result T WorldFault → WorldValue → ℕ → WorldValue → ℕ → Type 0
Comes then xs (Ok value) old before new after = StandsFor then new × (after ≡ before + cost xs)
Comes then xs (Err NoMemory) old before new after = PaysFront before xs after
Comes then xs (Err other) old before new after = (new ≡ old) × (after ≡ before)

-- ---- lines

-- what a line asks a site for is in its ranges
abbrev pub IsScript : ScriptLine → Type 0
IsScript (script.At site asked) = IsCommand asked
IsScript other = Unit {0}

-- A line is answered with what is said of it. Where memory ran out, a part of the steps were taken; there is no other
-- fault.
abbrev pub Answers : World → ScriptLine → Result (List Reply) WorldFault → ℕ → WorldValue → ℕ → Type 0
Answers w line (Ok replies) before new after =
    (replies ≡ script_replies w (Ok line))
    × StandsFor (after_script w (Ok line)) new
    × (after ≡ before + cost (script_work w (Ok line)))
Answers w line (Err NoMemory) before new after = PaysFront before (script_work w (Ok line)) after
Answers w line (Err other) before new after = ⊥

-- what is said of a line that is refused so
abbrev pub refusal_replies : WorldFault → List Reply
refusal_replies NoSite = reply.Refused refusal.NoSite ∷ []
refusal_replies NoMail = reply.Refused refusal.NoMail ∷ []
refusal_replies NoMemory = []

-- The same of a line that isn't refused. One that is changes nothing.
abbrev pub Goes : World → ScriptLine → Result (List Reply) WorldFault → WorldValue → ℕ → WorldValue → ℕ → Type 0
Goes w line (Ok replies) old before new after = Answers w line (Ok replies) before new after
Goes w line (Err NoMemory) old before new after = Answers w line (Err NoMemory) before new after
Goes w line (Err fault) old before new after =
    (script_replies w (Ok line) ≡ refusal_replies fault)
    × (script_work w (Ok line) ≡ [])
    × (after_script w (Ok line) ≡ w)
    × (new ≡ old)
    × (after ≡ before)
