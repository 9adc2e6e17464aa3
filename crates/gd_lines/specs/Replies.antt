-- The printed lines: `reply_text`, at the end, has a row for each. Each line ends with LF. Numbers are decimal without
-- leading zeros.
use Rattle.std.specs.Prelude.{ℕ, List, [], ◌++◌, Option, Some, None, Bool, true, false, ◌==◌, if◌then◌else◌, codes}
use Rattle.std.specs.Prelude.{decimal}
use Rattle.gd_base.specs.Stamps.{Stamp}
use Rattle.gd_base.specs.declared.refusal.Refusal.{Refusal}
use Rattle.gd_base.specs.declared.refusal.Refusal.TheVariants as why
use Rattle.gd_base.specs.declared.refusal.FrameFault.{FrameFault}
use Rattle.gd_base.specs.declared.refusal.FrameFault.TheVariants as frame
use Rattle.gd_base.specs.declared.fault.WireWhy.{WireWhy}
use Rattle.gd_base.specs.declared.fault.WireWhy.TheVariants as wire
use Rattle.gd_base.specs.declared.fault.WireFault.{WireFault}
use Rattle.gd_base.specs.declared.note.Note.{Note}
use Rattle.gd_base.specs.declared.site_status.SiteStatus.{SiteStatus}
use Rattle.gd_events.specs.Ops.{Op}
use Rattle.gd_lines.specs.OpText.{op_text, spaced}
use Rattle.gd_lines.specs.declared.reply.Reply.{Reply}
use Rattle.gd_lines.specs.declared.reply.Reply.TheVariants.{Ready, Done, Refused, Item, End, Status, Noted, Who}
use Rattle.gd_lines.specs.declared.reply.Reply.TheVariants.{Applied, Dropped, Reworked, Backdated, BadFrame, NotTaken}
use Rattle.gd_lines.specs.declared.reply.Reply.TheVariants.{Parted, LongFrame, Polled, LinkFault, Mail, Delivered}
use Rattle.gd_lines.specs.declared.reply.Reply.TheVariants.{BadLog, Usage, LineLimit, OtherJournal, BadView, Arrivals}
use Rattle.gd_lines.specs.declared.reply.Reply.TheVariants.{SiteLine, Churned, Same}
use Rattle.gd_lines.specs.Text.{id_text, parent_text, item_line, end_line, bad_log_line, bad_view_line}

-- why a line is refused
abbrev pub refusal_word : Refusal → List ℕ
refusal_word why.LongLine = codes "LongLine"
refusal_word why.UnknownCommand = codes "UnknownCommand"
refusal_word why.WrongCount = codes "WrongCount"
refusal_word why.BadKind = codes "BadKind"
refusal_word why.BadNumber = codes "BadNumber"
refusal_word why.BadId = codes "BadId"
refusal_word why.BadColour = codes "BadColour"
refusal_word why.BadLook = codes "BadLook"
refusal_word why.BadLabel = codes "BadLabel"
refusal_word why.ClockEnd = codes "ClockEnd"
refusal_word why.SessionFull = codes "SessionFull"
refusal_word why.NoObject = codes "NoObject"
refusal_word why.NotShape = codes "NotShape"
refusal_word why.NotGroup = codes "NotGroup"
refusal_word why.NotPlaced = codes "NotPlaced"
refusal_word why.NotConnector = codes "NotConnector"
refusal_word why.SameMember = codes "SameMember"
refusal_word why.NotTop = codes "NotTop"
refusal_word why.TooFar = codes "TooFar"
refusal_word why.NothingBack = codes "NothingBack"
refusal_word why.NoteEnd = codes "NoteEnd"
refusal_word why.NoSite = codes "NoSite"
refusal_word why.NoMail = codes "NoMail"
refusal_word why.NoGesture = codes "NoGesture"
refusal_word why.InGesture = codes "InGesture"
refusal_word why.GestureFull = codes "GestureFull"

-- why bytes are no frame
abbrev pub wire_word : WireWhy → List ℕ
wire_word wire.Short = codes "Short"
wire_word wire.Magic = codes "Magic"
wire_word wire.Version = codes "Version"
wire_word wire.Check = codes "Check"
wire_word wire.Field = codes "Field"
wire_word wire.FutureId = codes "FutureId"
wire_word wire.MemberOrder = codes "MemberOrder"
wire_word wire.Disorder = codes "Disorder"
wire_word wire.Trailing = codes "Trailing"

unfoldable pub ready_line : ℕ → ℕ → List ℕ
ready_line site n = codes "ready " ++ decimal site ++ codes " of " ++ decimal n ++ codes "\n"

unfoldable pub done_line : Stamp → List ℕ
done_line id = codes "ok " ++ id_text id ++ codes "\n"

unfoldable pub refused_line : Refusal → List ℕ
refused_line why = codes "refused: " ++ refusal_word why ++ codes "\n"

-- how many events are held and kept, the line, and the clock
unfoldable pub standing_text : SiteStatus → List ℕ
standing_text status =
    codes "held " ++ decimal status.held ++ codes " kept " ++ decimal status.kept
    ++ codes " line " ++ decimal status.line ++ codes " clock " ++ decimal status.clock

-- from how many sites it has parted, where it has
abbrev pub parted_text : ℕ → List ℕ
parted_text count = if count == 0 then [] else codes " parted " ++ decimal count

unfoldable pub status_text : SiteStatus → List ℕ
status_text status = standing_text status ++ parted_text status.parted

unfoldable pub status_line : SiteStatus → List ℕ
status_line status = status_text status ++ codes "\n"

unfoldable pub site_line : ℕ → SiteStatus → List ℕ
site_line site status =
    codes "site " ++ decimal site ++ codes " " ++ status_text status ++ codes "\n"

unfoldable pub noted_line : ℕ → List ℕ
noted_line number = codes "noted " ++ decimal number ++ codes "\n"

-- a name, or that there is none
abbrev pub name_text : Option (List ℕ) → List ℕ
name_text None = codes "-"
name_text (Some name) = name

unfoldable pub who_line : ℕ → Note → List ℕ
who_line site note =
    codes "who " ++ decimal site ++ codes " " ++ name_text note.name
    ++ codes " focus " ++ parent_text note.focus ++ codes "\n"

-- what came of an event of another site, and its operation
unfoldable pub applied_line : Stamp → Op → List ℕ
applied_line id op = codes "echo " ++ id_text id ++ codes " applied" ++ spaced (op_text op) ++ codes "\n"

unfoldable pub dropped_line : Stamp → Stamp → Op → List ℕ
dropped_line id by op =
    codes "echo " ++ id_text id ++ codes " dropped by " ++ id_text by ++ spaced (op_text op) ++ codes "\n"

unfoldable pub reworked_line : Stamp → ℕ → Op → List ℕ
reworked_line id count op =
    codes "echo " ++ id_text id ++ codes " reworked " ++ decimal count ++ spaced (op_text op) ++ codes "\n"

-- the event's clock, and the sure clock
unfoldable pub backdated_line : Stamp → ℕ → ℕ → List ℕ
backdated_line id clock sure =
    codes "event " ++ id_text id ++ codes " refused: Backdated " ++ decimal clock
    ++ codes " " ++ decimal sure ++ codes "\n"

unfoldable pub bad_frame_line : WireFault → List ℕ
bad_frame_line fault =
    codes "frame refused: " ++ wire_word fault.why ++ codes " at " ++ decimal fault.at ++ codes "\n"

-- `k` events acknowledged, where the site has made `own`
unfoldable pub over_ack_line : ℕ → ℕ → List ℕ
over_ack_line k own =
    codes "frame refused: OverAck " ++ decimal k ++ codes " " ++ decimal own ++ codes "\n"

abbrev pub not_taken_line : FrameFault → List ℕ
not_taken_line frame.Session = codes "frame refused: Session\n"
not_taken_line frame.NotForMe = codes "frame refused: NotForMe\n"
not_taken_line frame.FromMe = codes "frame refused: FromMe\n"
not_taken_line frame.NoSuchSite = codes "frame refused: NoSuchSite\n"
not_taken_line (frame.OverAck k own) = over_ack_line k own

unfoldable pub parted_line : ℕ → ℕ → List ℕ
parted_line site count = codes "parted from " ++ decimal site ++ codes " at " ++ decimal count ++ codes "\n"

abbrev pub long_frame_line : List ℕ
long_frame_line = codes "frame refused: TooLong\n"

unfoldable pub polled_line : ℕ → List ℕ
polled_line count = codes "polled " ++ decimal count ++ codes "\n"

unfoldable pub link_fault_line : ℕ → List ℕ
link_fault_line count = codes "link fault after " ++ decimal count ++ codes "\n"

unfoldable pub mail_line : ℕ → List ℕ
mail_line number = codes "mail " ++ decimal number ++ codes "\n"

unfoldable pub delivered_line : ℕ → List ℕ
delivered_line number = codes "delivered " ++ decimal number ++ codes "\n"

abbrev pub usage_line : List ℕ
usage_line = codes "usage: groupdesign COMMAND OPTIONS\n"

abbrev pub line_limit_line : List ℕ
line_limit_line = codes "line limit\n"

abbrev pub other_journal_line : List ℕ
other_journal_line = codes "other journal\n"

unfoldable pub arrivals_line : ℕ → ℕ → ℕ → ℕ → List ℕ
arrivals_line applied dropped reworked undone =
    codes "arrivals applied " ++ decimal applied ++ codes " dropped " ++ decimal dropped
    ++ codes " reworked " ++ decimal reworked ++ codes " undone " ++ decimal undone ++ codes "\n"

unfoldable pub churned_line : ℕ → ℕ → ℕ → ℕ → ℕ → List ℕ
churned_line edits refused sent delivered idle =
    codes "edits " ++ decimal edits ++ codes " refused " ++ decimal refused
    ++ codes " sent " ++ decimal sent
    ++ codes " delivered " ++ decimal delivered ++ codes " idle " ++ decimal idle ++ codes "\n"

abbrev pub same_line : Bool → List ℕ
same_line true = codes "same yes\n"
same_line false = codes "same no\n"

-- the line of a reply
abbrev pub reply_text : Reply → List ℕ
reply_text (Ready site n) = ready_line site n
reply_text (Done id) = done_line id
reply_text (Refused why) = refused_line why
reply_text (Item item) = item_line item
reply_text (End count) = end_line count
reply_text (Status status) = status_line status
reply_text (Noted number) = noted_line number
reply_text (Who site note) = who_line site note
reply_text (Applied id op) = applied_line id op
reply_text (Dropped id by op) = dropped_line id by op
reply_text (Reworked id count op) = reworked_line id count op
reply_text (Backdated id clock sure) = backdated_line id clock sure
reply_text (BadFrame fault) = bad_frame_line fault
reply_text (NotTaken fault) = not_taken_line fault
reply_text (Parted site count) = parted_line site count
reply_text LongFrame = long_frame_line
reply_text (Polled count) = polled_line count
reply_text (LinkFault count) = link_fault_line count
reply_text (Mail number) = mail_line number
reply_text (Delivered number) = delivered_line number
reply_text (BadLog at why) = bad_log_line at why
reply_text Usage = usage_line
reply_text LineLimit = line_limit_line
reply_text OtherJournal = other_journal_line
reply_text (BadView at why) = bad_view_line at why
reply_text (Arrivals applied dropped reworked undone) =
    arrivals_line applied dropped reworked undone
reply_text (SiteLine site status) = site_line site status
reply_text (Churned edits refused sent delivered idle) =
    churned_line edits refused sent delivered idle
reply_text (Same same) = same_line same
