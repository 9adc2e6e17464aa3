-- What the calls of a world answer, as what the world of reference sites says.
use Rattle.std.specs.Prelude.{◌≡◌, ℕ, ◌+◌, true, false, List, length, None, Some, IsSome, Result, Ok, Err}
use Rattle.gd_base.specs.Sites.{is_site}
use Rattle.gd_grammar.specs.FrameBytes.{Frame}
use Rattle.gd_lines.specs.declared.command.Command.{Command}
use Rattle.gd_lines.specs.declared.reply.Reply.{Reply}
use Rattle.gd_lines.specs.declared.reply.Reply.TheVariants as reply
use Rattle.gd_reference.specs.NodeRun.{command_replies}
use Rattle.gd_reference.specs.SiteEffects.{frame_replies}
use Rattle.gd_reference.specs.World.{World}
use Rattle.gd_world.specs.declared.fault.WorldFault.{WorldFault}
use Rattle.gd_world.specs.declared.fault.WorldFault.TheVariants.{NoSite, NoMail, NoMemory}
use Rattle.gd_worlds.specs.Rehearsal.{mail_of, may_send}

-- a site that is asked for this: what it says, where there is such a site
abbrev pub LineIs : World → ℕ → Command → Result (List Reply) WorldFault → Type 0
LineIs w site asked (Ok replies) = (is_site w.sites site ≡ true) × (replies ≡ command_replies (w.at site) asked)
LineIs w site asked (Err NoSite) = is_site w.sites site ≡ false
LineIs w site asked (Err NoMail) = ⊥
LineIs w site asked (Err NoMemory) = is_site w.sites site ≡ true

-- a send: the number of the new mail, where there are two such sites
abbrev pub SendIs : World → ℕ → ℕ → Result ℕ WorldFault → Type 0
SendIs w from to (Ok number) = (may_send w from to ≡ true) × (number ≡ length w.mail + 1)
SendIs w from to (Err NoSite) = may_send w from to ≡ false
SendIs w from to (Err NoMail) = ⊥
SendIs w from to (Err NoMemory) = may_send w from to ≡ true

-- a delivery: what the receiver says of the mail, where there is such a mail
abbrev pub DeliverIs : World → ℕ → Result (List Reply) WorldFault → Type 0
DeliverIs w number (Ok replies) = (f : Frame) × (mail_of w number ≡ Some f)
    × (replies ≡ frame_replies (w.at f.head.to) f)
DeliverIs w number (Err NoSite) = ⊥
DeliverIs w number (Err NoMail) = mail_of w number ≡ None
DeliverIs w number (Err NoMemory) = IsSome (mail_of w number)

-- what is said of an event that is taken: no mail is refused, no event of it backdated
abbrev pub IsEcho : Reply → Type 0
IsEcho (reply.Applied id op) = Unit {0}
IsEcho (reply.Dropped id by op) = Unit {0}
IsEcho (reply.Reworked id count op) = Unit {0}
IsEcho other = ⊥
