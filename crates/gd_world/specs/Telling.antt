-- What comes of asking a member for what a line says.
use Rattle.std.specs.List.{filter}
use Rattle.std.specs.Prelude.{◌≡◌, ℕ, ◌+◌, List, [], Result, Ok, Err}
use Rattle.gd_answers.specs.Paying.{PaysFront}
use Rattle.gd_effects.specs.Effects.{Effect, cost}
use Rattle.gd_lines.specs.declared.command.Command.{Command}
use Rattle.gd_lines.specs.declared.reply.Reply.{Reply}
use Rattle.gd_reference.specs.NodeRun.{command_replies, of_command}
use Rattle.gd_reference.specs.SlowSite.{SlowSite}
use Rattle.gd_reference.specs.World.{after_line}
use Rattle.gd_takeback.specs.Standing.{StandsWith}
use Rattle.gd_world.specs.declared.fault.WorldFault.{WorldFault}
use Rattle.gd_world.specs.declared.fault.WorldFault.TheVariants.{NoMemory}
use Rattle.gd_world.specs.declared.member.Member.{Member}
use Rattle.gd_worlds.specs.Rehearsal.{is_work, told_by}

-- the steps of it, which are all that a world has of its effects
abbrev pub work_of : SlowSite → Command → List Effect
work_of slow asked = filter is_work (of_command slow [] (Ok asked))

-- The member says what the reference site says, and stands for the one that it leads to. Where memory ran out a part of
-- the steps were taken; there is no other fault.
abbrev pub Tells : SlowSite → Command → Result (List Reply) WorldFault → ℕ → Member → ℕ → Type 0
Tells slow asked (Ok replies) before new after =
    (replies ≡ command_replies slow asked)
    × StandsWith (after_line slow (told_by asked)) new.site new.backs
    × (after ≡ before + cost (work_of slow asked))
Tells slow asked (Err NoMemory) before new after = PaysFront before (work_of slow asked) after
Tells slow asked (Err other) before new after = ⊥
