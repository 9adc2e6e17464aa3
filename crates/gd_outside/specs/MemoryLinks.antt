-- What the links in memory hold, and what they tell of it.
use Rattle.std.specs.Prelude.{ℕ, ◌+◌, Bool, true, false, ◌||◌, nat_lt, if◌then◌else◌, List, [], ◌∷◌, ◌++◌, length, drop}
use Rattle.std.specs.Prelude.{sum_by, Option, None, Some}
use Rattle.gd_outside.specs.declared.fail.Fail.{Fail}
use Rattle.gd_outside.specs.declared.link.Received.{Received}
use Rattle.gd_outside.specs.declared.link.Received.TheVariants as got
use Rattle.gd_outside.specs.Causes.{counted}
use Rattle.gd_outside.specs.Links.{one_try}
use Rattle.gd_outside.specs.Seen.{Entry, Tried, SeenLink}
use Rattle.gd_outside.specs.Texts.{texts_size}

-- the entries still to come, the addresses and the own number that it was opened with, the frames that were tried, the
-- room for addresses and frames together, and whether a call went past it
pub record KeptLink : Type 0 where
  pub entries : List Entry
  pub addresses : List (List ℕ)
  pub me : ℕ
  pub tried : List Tried
  pub room : ℕ
  pub is_past : Bool

abbrev pub new_link : ℕ → KeptLink
new_link room = record { entries = []; addresses = []; me = 0; tried = []; room = room; is_past = false }

-- what frames take of the room: the bytes of each, and one more, for its site
abbrev pub frames_size : List Tried → ℕ
frames_size tried = sum_by (λ t. length t.frame + 1) tried

-- addresses are kept in place of those that were there, while all addresses and frames fit; from the first that don't
-- on none are
abbrev pub with_addresses : KeptLink → List (List ℕ) → ℕ → KeptLink
with_addresses k addresses me =
    if k.is_past || nat_lt k.room (texts_size addresses + frames_size k.tried)
    then record k { is_past = true }
    else record k { addresses = addresses; me = me }

-- a frame is kept behind the others, while all addresses and frames fit
abbrev pub with_frame : KeptLink → ℕ → List ℕ → KeptLink
with_frame k to frame =
    if k.is_past || nat_lt k.room (texts_size k.addresses + frames_size k.tried + (length frame + 1))
    then record k { is_past = true }
    else record k { tried = k.tried ++ one_try to frame }

-- one more entry, behind the others
abbrev pub with_entry : KeptLink → Entry → KeptLink
with_entry k entry = record k { entries = k.entries ++ entry ∷ [] }

-- the next entry is taken, if there is one
abbrev pub without_entry : KeptLink → KeptLink
without_entry k = record k { entries = drop 1 k.entries }

-- nothing is told once a call went past the room
abbrev pub told_of : {A : Type 0} → KeptLink → A → Option A
told_of k x = if k.is_past then None else Some x

abbrev pub seen_kept : KeptLink → ℕ → SeenLink
seen_kept k faults = record {
  entries = told_of k k.entries;
  tried = told_of k k.tried;
  addresses = told_of k k.addresses;
  me = told_of k k.me;
  faults = faults;
}

abbrev pub seen_sure_link : KeptLink → SeenLink
seen_sure_link k = seen_kept k 0

-- what is kept, which calls fail, how many there were of each kind, and how many failed, the receives that an entry
-- made fail among them
pub record ListedLink : Type 0 where
  pub kept : KeptLink
  pub fails : List Fail
  pub opens : ℕ
  pub sends : ℕ
  pub faults : ℕ

abbrev pub seen_link : ListedLink → SeenLink
seen_link s = seen_kept s.kept s.faults

-- the count of faults after a receive
abbrev pub faults_after : Received → ℕ → ℕ
faults_after got.Failed faults = counted faults
faults_after (got.Datagram k) faults = faults
faults_after got.Nothing faults = faults
faults_after got.TooLong faults = faults
