-- What holds of the runs of one command alone.
use Rattle.std.specs.Prelude.{◌≡◌, ◌⊎◌, ℕ, List, [], Option, Some, None, IsSome, length}
use Rattle.gd_effects.specs.Endings.{Unread}
use Rattle.gd_effects.specs.Outside.{Outside}
use Rattle.gd_events.specs.Events.{Event}
use Rattle.gd_grammar.specs.Closing.{Closes}
use Rattle.gd_grammar.specs.Drawings.{drawings, logged}
use Rattle.gd_grammar.specs.HeaderBytes.{Header}
use Rattle.gd_node.specs.Configs.{ConfigValue}
use Rattle.gd_node.specs.Rejoining.{HoldsFound, IsRejoinEnd, IsRenamed, IsToldAll, KeepsFound, OnceFound, left_found}
use Rattle.gd_node.specs.Serving.{Holds, IsNamed, IsNodeEnd, KeepsBegun, OnceLogged, begun_site, header_of, left_by}
use Rattle.gd_asked.specs.declared.command.Command.{Command}
use Rattle.gd_asked.specs.declared.command.Command.TheVariants.{View, Node, Rejoin, Rehearse, Churn}
use Rattle.gd_outside.specs.Seen.{Entry, SeenJournal}
use Rattle.gd_outside.specs.Told.{told}
use Rattle.gd_outside.specs.declared.status.Status.{Status}
use Rattle.gd_outside.specs.declared.status.Status.TheVariants.{Usage, ReadFault, WriteFault, LinkFault, NoMemory}
use Rattle.gd_reference.specs.NodeRun.{node_after, node_lines}
use Rattle.gd_reference.specs.Rejoin.{Found, Events, node_header, rejoined_held}
use Rattle.gd_reference.specs.SlowRun.{IsReaderEnd}
use Rattle.gd_run.specs.Runs.{found_by}
use Rattle.gd_watch.specs.Ends.{IsViewEnd}
use Rattle.gd_world.specs.Rehearsing.{IsChurnEnd, IsRehearsalEnd}

-- where words ask for no command, the statuses of the line that says how the program is called
abbrev pub IsUsageEnd : Status → Type 0
IsUsageEnd Usage = Unit {0}
IsUsageEnd WriteFault = Unit {0}
IsUsageEnd NoMemory = Unit {0}
IsUsageEnd other = ⊥

-- the statuses that a command ends with
abbrev pub IsEnd : Option Command → Status → Type 0
IsEnd None status = IsUsageEnd status
IsEnd (Some View) status = IsViewEnd status
IsEnd (Some (Node session site journal addresses)) status = IsNodeEnd status
IsEnd (Some (Rejoin session site journal addresses)) status = IsRejoinEnd status
IsEnd (Some (Rehearse sites)) status = IsRehearsalEnd status
IsEnd (Some (Churn seed steps)) status = IsChurnEnd status
IsEnd (Some other) status = IsReaderEnd status

-- only a node touches the journal and the link; a churn, and words that ask for no command, touch no input
abbrev pub Untouched : Option Command → Outside → Outside → Type 0
Untouched None before after =
    (after.input ≡ before.input)
    × (after.journal ≡ before.journal)
    × (after.link ≡ before.link)
    × (after.steps ≡ before.steps)
Untouched (Some (Node session site journal addresses)) before after = Unit {0}
Untouched (Some (Rejoin session site journal addresses)) before after = Unit {0}
Untouched (Some (Churn seed steps)) before after =
    (after.input ≡ before.input)
    × (after.journal ≡ before.journal)
    × (after.link ≡ before.link)
Untouched (Some other) before after = (after.journal ≡ before.journal) × (after.link ≡ before.link)

-- a command that does all of its work before it prints anything, which failed at reading, or had no memory
abbrev pub IsSilentEnd : Status → Type 0
IsSilentEnd ReadFault = Unit {0}
IsSilentEnd NoMemory = Unit {0}
IsSilentEnd other = ⊥

-- printed nothing then, and took no steps after a failed read
abbrev pub Silent : Option Command → Status → Outside → Outside → Type 0
Silent (Some View) status before after = Unit {0}
Silent (Some (Node session site journal addresses)) status before after = Unit {0}
Silent (Some (Rejoin session site journal addresses)) status before after = Unit {0}
Silent (Some (Rehearse sites)) status before after = Unit {0}
Silent other status before after =
    (IsSilentEnd status → after.output ≡ before.output)
    × (status ≡ ReadFault → after.steps ≡ before.steps)

-- ---- nodes

-- what a node of these words is given
abbrev pub config : ℕ → ℕ → List ℕ → List (List ℕ) → ConfigValue
config session site journal addresses =
    record { session = session; me = site; journal = journal; addresses = addresses }

-- the journal, where it is told, is a log of that header and these events with its closing gate, if there was one to go
-- on from
abbrev pub ClosesFound : Found → Header → List Event → SeenJournal → Type 0
ClosesFound (Events found) h held journal =
    IsSome journal.contents → Closes drawings h held (told journal.contents)
ClosesFound other h held journal = Unit {0}

-- The journal, where it is told, is the log of what the slow site of a node holds after its lines. Of one that goes on
-- from its journal the closing gate may be any byte but the open one, and anything may follow it.
abbrev pub HasLogOf : Option Command → List ℕ → List ℕ → List Entry → SeenJournal → Type 0
HasLogOf (Some (Node session site journal addresses)) contents input entries after =
    let slow = node_after site (length addresses) session entries (node_lines input) in
    IsSome after.contents
    → told after.contents ≡ logged (node_header site (length addresses) session) slow.held
HasLogOf (Some (Rejoin session site journal addresses)) contents input entries after =
    let there = found_by session site addresses contents in
    ClosesFound there (node_header site (length addresses) session)
    (rejoined_held site (length addresses) session there entries (node_lines input)) after
HasLogOf other contents input entries after = Unit {0}

-- Once a node has begun its log, or found it, and before that it opens the link at most, and reads what it goes on
-- from, a crash leaves that log with a front of the gestures that were recorded.
abbrev pub Keeps : Option Command → Status → Outside → Outside → Type 0
Keeps (Some (Node session site journal addresses)) status before after =
    OnceLogged status before after
    (KeepsBegun (config session site journal addresses) (told before.link.entries)
    (told before.input.left) status before after)
Keeps (Some (Rejoin session site journal addresses)) status before after =
    OnceFound status before after
    (IsToldAll after → KeepsFound (config session site journal addresses)
    (found_by session site addresses (told before.journal.contents))
    (told before.link.entries) (told before.input.left) status before after)
Keeps other status before after = Unit {0}

-- Once a node has begun its log, or found it, the journal, where it is told, holds a log of that header with the found
-- events first, and so does whatever a crash leaves: whatever comes, and whatever the input and the link tell.
abbrev pub HoldsLogOf : Option Command → Status → Outside → Outside → Type 0
HoldsLogOf (Some (Node session site journal addresses)) status before after =
    OnceLogged status before after
    (Holds (header_of (config session site journal addresses)) [] after.journal)
HoldsLogOf (Some (Rejoin session site journal addresses)) status before after =
    OnceFound status before after
    (IsSome after.journal.contents → HoldsFound (config session site journal addresses)
    (found_by session site addresses (told before.journal.contents)) after.journal)
HoldsLogOf other status before after = Unit {0}

-- The entries of the link that are left: a node takes some at `poll` alone, and another command takes none.
abbrev pub left_of : Option Command → List ℕ → List ℕ → List Entry → List Entry
left_of (Some (Node session site journal addresses)) contents input entries =
    left_by (begun_site (config session site journal addresses)) entries input
left_of (Some (Rejoin session site journal addresses)) contents input entries =
    left_found (config session site journal addresses)
    (found_by session site addresses contents) entries input
left_of other contents input entries = entries

-- a node that goes on from its journal, where that failed before anything was found in it
abbrev pub IsUnread : Option Command → Status → Outside → Outside → Type 0
IsUnread (Some (Rejoin session site journal addresses)) status before after =
    Unread status before after
IsUnread other status before after = ⊥

-- this holds unless memory ran out before anything was done
abbrev pub IfBegun : Status → Outside → Outside → Type 0 → Type 0
IfBegun NoMemory before after P = (after ≡ before) ⊎ P
IfBegun other before after P = P

-- The link's addresses and own number are those of the words, and so is the journal's path once its log is begun, or
-- found.
abbrev pub Named : Option Command → Status → Outside → Outside → Type 0
Named (Some (Node session site journal addresses)) status before after =
    IfBegun status before after (IsNamed (config session site journal addresses) status before after)
Named (Some (Rejoin session site journal addresses)) status before after =
    IfBegun status before after (IsRenamed (config session site journal addresses)
    (found_by session site addresses (told before.journal.contents)) status before after)
Named other status before after = Unit {0}

-- where the link wasn't opened, nothing else was touched
abbrev pub OpensFirst : Status → Outside → Outside → Type 0
OpensFirst LinkFault before after =
    (after.input ≡ before.input)
    × (after.output ≡ before.output)
    × (after.journal ≡ before.journal)
    × (after.steps ≡ before.steps)
OpensFirst other before after = Unit {0}
