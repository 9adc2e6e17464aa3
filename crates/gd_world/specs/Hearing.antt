-- What comes of handing a frame to a member.
use Rattle.std.specs.Prelude.{◌≡◌, ℕ, ◌+◌, List, Result, Ok, Err}
use Rattle.gd_answers.specs.Paying.{PaysFront, frame_works}
use Rattle.gd_effects.specs.Effects.{cost}
use Rattle.gd_grammar.specs.FrameBytes.{Frame}
use Rattle.gd_lines.specs.declared.reply.Reply.{Reply}
use Rattle.gd_reference.specs.Offers.{take_frame}
use Rattle.gd_reference.specs.SiteEffects.{frame_replies}
use Rattle.gd_reference.specs.SlowSite.{SlowSite}
use Rattle.gd_takeback.specs.Standing.{StandsWith}
use Rattle.gd_world.specs.declared.fault.WorldFault.{WorldFault}
use Rattle.gd_world.specs.declared.fault.WorldFault.TheVariants.{NoMemory}
use Rattle.gd_world.specs.declared.member.Member.{Member}

-- The member says what the reference site says, and stands for the one that it leads to. Where memory ran out a part of
-- the steps were taken; there is no other fault.
abbrev pub Hears : SlowSite → Frame → Result (List Reply) WorldFault → ℕ → Member → ℕ → Type 0
Hears slow f (Ok replies) before new after =
    (replies ≡ frame_replies slow f)
    × StandsWith (take_frame slow f) new.site new.backs
    × (after ≡ before + cost (frame_works slow f))
Hears slow f (Err NoMemory) before new after = PaysFront before (frame_works slow f) after
Hears slow f (Err other) before new after = ⊥
