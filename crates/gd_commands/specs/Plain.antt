-- Words in the plain form, which are always taken: the options and flags in the order of the table, an option as `--x
-- V` and a flag as `--x`, and then the addresses.
use Rattle.std.specs.Prelude.{◌≡◌, ◌≢◌, ◌≤◌, ◌-◌, ◌^◌, ℕ, Bool, true, false, List, [], ◌∷◌, ◌++◌, Option, Some, None}
use Rattle.std.specs.Prelude.{codes, length}
use Rattle.std.specs.Str.Parse.{digits_value}
use Rattle.clap.specs.Words.{Text}
use Rattle.gd_base.specs.declared.ranges.TheConstants.{SITES}
use Rattle.gd_options.specs.declared.churn.TheConstants.{CHURN_STEPS}
use Rattle.gd_asked.specs.declared.command.Command.{Command}
use Rattle.gd_asked.specs.declared.command.Command.TheVariants as command
use Rattle.gd_options.specs.declared.format.Format.{Format}
use Rattle.gd_options.specs.declared.format.Format.TheVariants as format
use Rattle.gd_commands.specs.Numbers.{is_number}

-- the values that are written
pub data Plain : Type 0 where
  Replay : (format : Option Format) → (counts : Bool) → (upto : Bool) → Plain
  Upgrade : Plain
  Snapshot : Plain
  View : Plain
  Board : (counts : Bool) → Plain
  Node : (session : Text) → (site : Text) → (journal : Text) → (addresses : List Text) → Plain
  Rejoin : (session : Text) → (site : Text) → (journal : Text) → (addresses : List Text) → Plain
  Rehearse : (sites : Text) → Plain
  Churn : (seed : Text) → (steps : Text) → Plain

abbrev pub format_word : Format → Text
format_word format.Text = codes "text"
format_word format.Json = codes "json"
format_word format.Events = codes "events"

abbrev pub format_words : Option Format → List Text
format_words None = []
format_words (Some f) = codes "--format" ∷ format_word f ∷ []

abbrev pub counts_words : Bool → List Text
counts_words true = codes "--counts" ∷ []
counts_words false = []

abbrev pub upto_words : Bool → List Text
upto_words true = codes "--upto-fault" ∷ []
upto_words false = []

abbrev pub member_words : Text → Text → Text → List Text → List Text
member_words session site journal addresses =
    codes "--session" ∷ session ∷ codes "--site" ∷ site ∷ codes "--journal" ∷ journal ∷ addresses

-- how they are written
abbrev pub plain_words : Plain → List Text
plain_words (Replay format counts upto) =
    codes "replay" ∷ ((format_words format ++ counts_words counts) ++ upto_words upto)
plain_words Upgrade = codes "upgrade" ∷ []
plain_words Snapshot = codes "snapshot" ∷ []
plain_words View = codes "view" ∷ []
plain_words (Board counts) = codes "board" ∷ counts_words counts
plain_words (Node session site journal addresses) = codes "node" ∷ member_words session site journal addresses
plain_words (Rejoin session site journal addresses) =
    codes "node" ∷ codes "--resume" ∷ member_words session site journal addresses
plain_words (Rehearse sites) = codes "rehearse" ∷ codes "--sites" ∷ sites ∷ []
plain_words (Churn seed steps) = codes "churn" ∷ codes "--seed" ∷ seed ∷ codes "--steps" ∷ steps ∷ []

abbrev pub format_meant : Option Format → Format
format_meant None = format.Text
format_meant (Some f) = f

-- the command that they ask for
abbrev pub plain_command : Plain → Command
plain_command (Replay format counts upto) = command.Replay (format_meant format) counts upto
plain_command Upgrade = command.Upgrade
plain_command Snapshot = command.Snapshot
plain_command View = command.View
plain_command (Board counts) = command.Board counts
plain_command (Node session site journal addresses) =
    command.Node (digits_value 10 session) (digits_value 10 site) journal addresses
plain_command (Rejoin session site journal addresses) =
    command.Rejoin (digits_value 10 session) (digits_value 10 site) journal addresses
plain_command (Rehearse sites) = command.Rehearse (digits_value 10 sites)
plain_command (Churn seed steps) = command.Churn (digits_value 10 seed) (digits_value 10 steps)

-- not empty, and without a hyphen in front
abbrev pub IsPlainWord : Text → Type 0
IsPlainWord [] = ⊥
IsPlainWord (b ∷ bs) = b ≢ 45

abbrev pub ArePlainWords : List Text → Type 0
ArePlainWords [] = Unit {0}
ArePlainWords (word ∷ words) = IsPlainWord word × ArePlainWords words

-- the digits of a number in that range
abbrev pub IsNumberFrom : ℕ → ℕ → Text → Type 0
IsNumberFrom low high text = (is_number text ≡ true) × (low ≤ digits_value 10 text) × (digits_value 10 text ≤ high)

abbrev pub IsPlainMember : Text → Text → Text → List Text → Type 0
IsPlainMember session site journal addresses =
    IsNumberFrom 0 (2 ^ 32 - 1) session × IsNumberFrom 1 (length addresses) site
    × IsPlainWord journal × ArePlainWords addresses × (length addresses ≤ SITES)

-- each value, and the number of addresses, is as the form says, and no value and no address is empty or begins with a
-- hyphen
abbrev pub IsPlain : Plain → Type 0
IsPlain (Replay format counts upto) = Unit {0}
IsPlain Upgrade = Unit {0}
IsPlain Snapshot = Unit {0}
IsPlain View = Unit {0}
IsPlain (Board counts) = Unit {0}
IsPlain (Node session site journal addresses) = IsPlainMember session site journal addresses
IsPlain (Rejoin session site journal addresses) = IsPlainMember session site journal addresses
IsPlain (Rehearse sites) = IsNumberFrom 1 SITES sites
IsPlain (Churn seed steps) = IsNumberFrom 0 (2 ^ 64 - 1) seed × IsNumberFrom 0 CHURN_STEPS steps
