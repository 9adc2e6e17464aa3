-- What a member does with a line that its user typed: what a node does with it, where it polls nothing and shows
-- nothing.
use Rattle.std.specs.Prelude.{◌≡◌, ◌≤◌, ◌+◌, ◌++◌, ℕ, List, [], ◌∷◌, length, Result, Ok, Err, nat_le, if◌then◌else◌}
use Rattle.std.specs.List.{flat_map}
use Rattle.std.specs.declared.alloc.AllocError.{AllocError}
use Rattle.gd_events.specs.Events.{Event}
use Rattle.gd_lines.specs.Refusals.{line_refusal}
use Rattle.gd_lines.specs.Replies.{reply_text}
use Rattle.gd_lines.specs.declared.command.Command.TheVariants as command
use Rattle.gd_lines.specs.declared.reply.Reply.{Reply}
use Rattle.gd_lines.specs.declared.reply.Reply.TheVariants as reply
use Rattle.gd_member.specs.Members.{MemberValue, IsLive}
use Rattle.gd_member.specs.Standing.{Stands}
use Rattle.gd_member.specs.declared.told.Told.{Told}
use Rattle.gd_member.specs.declared.told.Told.TheVariants.{Done, Refused, Other}
use Rattle.gd_reference.specs.Judging.{edit}
use Rattle.gd_reference.specs.NodeRun.{ReadLine, after_command, command_replies}
use Rattle.gd_reference.specs.SiteEffects.{turned}
use Rattle.gd_reference.specs.SlowSite.{SlowSite}
use Rattle.gd_reference.specs.TakeBack.{events_in, turn}
use Rattle.gd_reference.specs.World.{most_notes}

-- ---- what it comes to

-- what is said: what a node prints of it, and nothing of the drawing
abbrev pub line_replies : SlowSite → ReadLine → List Reply
line_replies slow (Ok command.Show) = []
line_replies slow (Ok wanted) = command_replies slow wanted
line_replies slow (Err fault) = reply.Refused (line_refusal fault) ∷ []

-- the site after it: that of a node, for which no entry of a link has come
abbrev pub after_typed : SlowSite → ReadLine → SlowSite
after_typed slow line = after_command slow [] line

-- the events that it becomes
abbrev pub line_events : SlowSite → ReadLine → List Event
line_events slow (Ok (command.Edit wanted)) = events_in (edit slow wanted)
line_events slow (Ok (command.Turn which)) = turned (turn slow which)
line_events slow other = []

-- whether it was done
abbrev pub told_by : {T Why : Type 0} → Result T Why → Told
told_by (Ok done) = Done
told_by (Err why) = Refused

-- a name, or a focus, is refused where the site has made as many notes as it may
abbrev pub told_note : SlowSite → Told
told_note slow = if nat_le most_notes (slow.notes slow.me).number then Refused else Done

abbrev pub told_of : SlowSite → ReadLine → Told
told_of slow (Ok (command.Edit wanted)) = told_by (edit slow wanted)
told_of slow (Ok (command.Turn which)) = told_by (turn slow which)
told_of slow (Ok (command.Name name)) = told_note slow
told_of slow (Ok (command.Focus focus)) = told_note slow
told_of slow (Ok command.Status) = Done
told_of slow (Ok command.Who) = Done
told_of slow (Ok other) = Other
told_of slow (Err fault) = Refused

-- ---- what a call leaves

-- so many steps, or where memory ran out as many or fewer
pub record PaysUpTo (most before after : ℕ) : Type 0 where
  pub least : before ≤ after
  pub most_paid : after ≤ before + most

-- the line was taken: the member stands for the site after it, that was said, and each of its events took a step
pub record IsAnswered (slow : SlowSite) (written : List Event) (line : ReadLine) (answer : Told) (m : MemberValue)
    (told now : List ℕ) (before after : ℕ) : Type 0 where
  pub answer_is : answer ≡ told_of slow line
  pub stands : Stands (after_typed slow line) written m
  pub said : now ≡ told ++ flat_map reply_text (line_replies slow line)
  pub steps : after ≡ before + length (line_events slow line)

-- memory ran out: the member is as before, or spent
pub record IsCut (slow : SlowSite) (written : List Event) (line : ReadLine) (m : MemberValue)
    (before after : ℕ) : Type 0 where
  pub stands : IsLive m → Stands slow written m
  pub steps : PaysUpTo (length (line_events slow line)) before after

abbrev pub Answers : SlowSite → List Event → ReadLine → Result Told AllocError → MemberValue → List ℕ → List ℕ → ℕ → ℕ
    → Type 0
Answers slow written line (Ok answer) m told now before after =
    IsAnswered slow written line answer m told now before after
Answers slow written line (Err why) m told now before after = IsCut slow written line m before after
