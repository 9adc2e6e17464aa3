-- Calls that have a member say something.
use Rattle.std.specs.List.{concat, flat_map}
use Rattle.std.specs.Prelude.{◌≡◌, ◌≢◌, ℕ, ℤ, pos, true, false, IsTrue, [], List, Option, Some, None, Result, Ok, Err}
use Rattle.std.specs.Prelude.{length}
use Rattle.gd_embed.specs.Calls.{Call}
use Rattle.gd_embed.specs.declared.answers.Fault.{Fault}
use Rattle.gd_embed.specs.declared.answers.Fault.TheVariants as fault
use Rattle.gd_embed.specs.declared.held.Held.{Held}
use Rattle.gd_embed.specs.declared.records.Noted.{Noted}
use Rattle.gd_embed.specs.Naming.{name_of}
use Rattle.gd_embed.specs.Records.{NoteIs}
use Rattle.gd_base.specs.Sites.{is_site}
use Rattle.gd_base.specs.declared.fault.LogWhy.{LogWhy}
use Rattle.gd_events.specs.Events.{Event}
use Rattle.gd_json.specs.EventsJson.{events_json}
use Rattle.gd_json.specs.PictureJson.{picture_json}
use Rattle.gd_lines.specs.Lines.{read}
use Rattle.gd_lines.specs.Replies.{reply_text}
use Rattle.gd_lines.specs.declared.reply.Reply.TheVariants as reply
use Rattle.gd_member.specs.Gestures.{asked_in}
use Rattle.gd_member.specs.Lines.{after_typed, line_replies, told_of}
use Rattle.gd_member.specs.Members.{IsLive}
use Rattle.gd_member.specs.Standing.{Stands}
use Rattle.gd_member.specs.Taking.{datagram_replies}
use Rattle.gd_member.specs.declared.told.Told.TheVariants as came
use Rattle.gd_model.specs.Drawing.{picture}
use Rattle.gd_model.specs.Shown.{items}
use Rattle.gd_reference.specs.DrawingText.{text}
use Rattle.gd_reference.specs.NodeRun.{after_datagram, sender}
use Rattle.gd_reference.specs.Rejoin as rejoin
use Rattle.gd_reference.specs.Rejoin.{Found, found, node_header}
use Rattle.gd_reference.specs.SiteEffects.{gesture_replies}
use Rattle.gd_reference.specs.SlowSite.{SlowSite}
use Rattle.gd_reference.specs.TakeBack.{after_gesture}
use Rattle.gd_snapshots.specs.SnapshotBytes.{snapshot_bytes}
use Rattle.gd_viewing.specs.Handing.{snapshot_of as handed}

-- the member stands for this site, and says this, which has so many bytes
abbrev pub Says : SlowSite → List Event → List ℕ → Held → Type 0
Says slow written said held = Stands slow written held.member × (held.said ≡ said)

abbrev pub counts : List ℕ → ℤ → Type 0
counts said count = count ≡ pos (length said)

-- Where memory ran out the member is as before, or spent.
abbrev pub IsLeft : SlowSite → List Event → Held → Type 0
IsLeft slow written new = IsLive new.member → Stands slow written new.member

-- A line is done or answered, refused, or asks for something else, and what a node prints of it is said.
abbrev pub LineIs : List ℕ → Call
LineIs line slow written old (Ok count) new =
    (told_of slow (read line) ≡ came.Done)
    × (Says (after_typed slow (read line)) written (flat_map reply_text (line_replies slow (read line))) new
    × counts (flat_map reply_text (line_replies slow (read line))) count)
LineIs line slow written old (Err fault.Refused) new =
    (told_of slow (read line) ≡ came.Refused)
    × Says (after_typed slow (read line)) written (flat_map reply_text (line_replies slow (read line))) new
LineIs line slow written old (Err fault.NotHere) new =
    (told_of slow (read line) ≡ came.Other)
    × (Stands (after_typed slow (read line)) written new.member × (new.said ≡ old.said))
LineIs line slow written old (Err fault.NoMemory) new = IsLeft slow written new
LineIs line slow written old (Err other) new = ⊥

-- Lines are made one gesture, and what a node prints of it is said. Where memory ran out the member is spent.
abbrev pub GestureIs : List ℕ → Call
GestureIs lines slow written old (Ok count) new =
    Says (after_gesture slow (asked_in lines)) written (flat_map reply_text (gesture_replies slow (asked_in lines))) new
    × counts (flat_map reply_text (gesture_replies slow (asked_in lines))) count
GestureIs lines slow written old (Err fault.NoMemory) new = new.member.spent ≡ true
GestureIs lines slow written old (Err other) new = ⊥

-- A datagram is taken, where it is a frame that the reference site takes, or refused, and what there is to say of it is
-- said.
abbrev pub TakeIs : List ℕ → Call
TakeIs datagram slow written old (Ok count) new =
    ((from : ℕ) × (sender slow datagram ≡ Some from))
    × (Says (after_datagram slow datagram) written (flat_map reply_text (datagram_replies slow datagram)) new
    × counts (flat_map reply_text (datagram_replies slow datagram)) count)
TakeIs datagram slow written old (Err fault.Refused) new =
    (sender slow datagram ≡ None)
    × Says (after_datagram slow datagram) written (flat_map reply_text (datagram_replies slow datagram)) new
TakeIs datagram slow written old (Err fault.NoMemory) new = IsLeft slow written new
TakeIs datagram slow written old (Err other) new = ⊥

-- A text of what the reference site holds is said, and the member stays.
abbrev pub TellsOf : (SlowSite → List ℕ) → Call
TellsOf said_of slow written old (Ok count) new = Says slow written (said_of slow) new × counts (said_of slow) count
TellsOf said_of slow written old (Err fault.NoMemory) new = new ≡ old
TellsOf said_of slow written old (Err other) new = ⊥

abbrev pub json_of : SlowSite → List ℕ
json_of slow = picture_json (items (picture slow.held))

abbrev pub text_of : SlowSite → List ℕ
text_of slow = concat (text (picture slow.held))

abbrev pub snapshot_of : SlowSite → List ℕ
snapshot_of slow = snapshot_bytes (handed slow)

-- The line of a fault is said, or memory ran out.
abbrev pub BlamesFor : ℕ → LogWhy → Held → Result ℤ Fault → Held → Type 0
BlamesFor at why old (Err fault.BadJournal) new =
    (new.member ≡ old.member) × (new.said ≡ reply_text (reply.BadLog at why))
BlamesFor at why old (Err fault.NoMemory) new = new ≡ old
BlamesFor at why old other new = ⊥

-- The events of the member's journal are said, or why it is no journal of it.
abbrev pub EventsOf : Found → SlowSite → List Event → Held → Result ℤ Fault → Held → Type 0
EventsOf (rejoin.Events events) slow written old (Ok count) new =
    Says slow written (events_json events) new × counts (events_json events) count
EventsOf (rejoin.Faulty at why) slow written old (Err fault.BadJournal) new =
    Says slow written (reply_text (reply.BadLog at why)) new
EventsOf (rejoin.Other other) slow written old (Err fault.OtherJournal) new = new ≡ old
EventsOf there slow written old (Err fault.NoMemory) new = new ≡ old
EventsOf there slow written old other new = ⊥

abbrev pub EventsIs : List ℕ → Call
EventsIs journal slow written old r new =
    EventsOf (found (node_header slow.me slow.sites slow.session) journal) slow written old r new

-- The name of a site's newest note is said, and the rest of that is handed out.
abbrev pub NoteAnswerIs : ℕ → Noted → Noted → Call
NoteAnswerIs site before noted slow written old (Ok count) new =
    IsTrue (is_site slow.sites site)
    × (((slow.notes site).number ≢ 0) × (Says slow written (name_of (slow.notes site).name) new
    × (counts (name_of (slow.notes site).name) count × NoteIs (slow.notes site) noted)))
NoteAnswerIs site before noted slow written old (Err fault.NoSite) new =
    (is_site slow.sites site ≡ false) × ((new ≡ old) × (noted ≡ before))
NoteAnswerIs site before noted slow written old (Err fault.NoNote) new =
    ((slow.notes site).number ≡ 0) × ((new ≡ old) × (noted ≡ before))
NoteAnswerIs site before noted slow written old (Err fault.NoMemory) new = (new ≡ old) × (noted ≡ before)
NoteAnswerIs site before noted slow written old (Err other) new = ⊥
