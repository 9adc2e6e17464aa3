-- What words ask for is in its ranges.
use Rattle.std.proofs.Common.{◌≡◌, ◌≤◌, ◌<◌, ◌-◌, ◌^◌, ℕ, Bool, true, false, refl, arith, List, [], ◌∷◌, length, Option}
use Rattle.std.proofs.Common.{Some, None, bytes_eq, codes, cond, subst, nat_le, nat_lt, ◌&&◌, option_map, lit<, Result}
use Rattle.std.proofs.Common.{Ok, Err, IfOk}
use Rattle.std.proofs.lemmas.Bool.{leb-true, ltb-false}
use Rattle.clap.specs.Words.{Row, Text, all_of, first_of, matches_of}
use Rattle.clap.proofs.WalkLemmas.{both}
use Rattle.gd_base.specs.declared.ranges.TheConstants.{SITES}
use Rattle.gd_asked.specs.InRange.{IsInRange, IsMember}
use Rattle.gd_options.specs.declared.churn.TheConstants.{CHURN_STEPS}
use Rattle.gd_asked.specs.declared.command.Command.{Command}
use Rattle.gd_asked.specs.declared.command.Command.TheVariants as command
use Rattle.gd_options.specs.declared.format.Format.{Format}
use Rattle.gd_commands.specs.declared.fault.CommandFault.{CommandFault}
use Rattle.gd_commands.specs.Numbers.{number_from, number_in, ranged}
use Rattle.gd_commands.specs.Forms.{Form, app, asked_by, is_set, takes_words}
use Rattle.gd_commands.specs.Replay.{format_or_text}
use Rattle.gd_commands.specs.Node.{both as both_of, node_by, node_command}
use Rattle.gd_commands.specs.Rehearse.{rehearse_by}
use Rattle.gd_commands.specs.Churn.{churn_by}
use Rattle.gd_commands.specs.Commands.{asked_by_one, command_of, forms}

-- ---- numbers

where_tested : (low high n m : ℕ) (b : Bool) → (nat_le low n && nat_le n high) ≡ b → cond b (Some n) None ≡ Some m
    → (low ≤ m) × (m ≤ high)
where_tested low high n m false test h = let e = h in cc
where_tested low high n m true test h =
    let same : n ≡ m = (let e = h in cc) in
    let sides = both (nat_le low n) (nat_le n high) test in
    subst (λ k. (low ≤ k) × (k ≤ high)) same (leb-true low n sides.0, leb-true n high sides.1)

where_ranged : (low high m : ℕ) (o : Option ℕ) → ranged low high o ≡ Some m → (low ≤ m) × (m ≤ high)
where_ranged low high m None h = let e = h in cc
where_ranged low high m (Some n) h = where_tested low high n m (nat_le low n && nat_le n high) refl h

number_ranged : (low high : ℕ) (text : Text) (m : ℕ) → number_from low high text ≡ Some m → (low ≤ m) × (m ≤ high)
number_ranged low high text m h = where_ranged low high m (number_in text) h

-- ---- the values of each command

abbrev IsRanged : Option Command → Type 0
IsRanged asked = (c : Command) → asked ≡ Some c → IsInRange c

replay_ranged : (format : Option Format) (counts upto : Bool)
    → IsRanged (option_map (λ f. command.Replay f counts upto) format)
replay_ranged None counts upto c h = let e = h in cc
replay_ranged (Some f) counts upto c h =
    let same : command.Replay f counts upto ≡ c = (let e = h in cc) in
    subst IsInRange same tt

lone_ranged : (lone : Command) → IsInRange lone → IsRanged (Some lone)
lone_ranged lone in_range c h =
    let same : lone ≡ c = (let e = h in cc) in
    subst IsInRange same in_range

sites_ranged : (o : Option ℕ) → ((n : ℕ) → o ≡ Some n → (1 ≤ n) × (n ≤ SITES))
    → IsRanged (option_map (λ n. command.Rehearse n) o)
sites_ranged None in_range c h = let e = h in cc
sites_ranged (Some n) in_range c h =
    let same : command.Rehearse n ≡ c = (let e = h in cc) in
    subst IsInRange same (in_range n refl)

rehearse_ranged : (sites : Option Text) → IsRanged (rehearse_by sites)
rehearse_ranged None c h = let e = h in cc
rehearse_ranged (Some sites) c h = sites_ranged (number_from 1 SITES sites) (number_ranged 1 SITES sites) c h

churn_with : (m n : Option ℕ) → ((k : ℕ) → m ≡ Some k → (0 ≤ k) × (k ≤ 2 ^ 64 - 1))
    → ((k : ℕ) → n ≡ Some k → (0 ≤ k) × (k ≤ CHURN_STEPS))
    → IsRanged (option_map (λ k. command.Churn k.0 k.1) (both_of m n))
churn_with None n seeds most c h = let e = h in cc
churn_with (Some k) None seeds most c h = let e = h in cc
churn_with (Some k) (Some l) seeds most c h =
    let same : command.Churn k l ≡ c = (let e = h in cc) in
    let top : 0 < 2 ^ 64 = lit< tt in
    let seed : k ≤ 2 ^ 64 - 1 = (seeds k refl).1 in
    let below : k < 2 ^ 64 = omega (arith, top, seed) in
    subst IsInRange same (below, (most l refl).1)

churn_ranged : (seed steps : Option Text) → IsRanged (churn_by seed steps)
churn_ranged None steps c h = let e = h in cc
churn_ranged (Some seed) None c h = let e = h in cc
churn_ranged (Some seed) (Some steps) c h =
    churn_with (number_from 0 (2 ^ 64 - 1) seed) (number_from 0 CHURN_STEPS steps)
    (number_ranged 0 (2 ^ 64 - 1) seed) (number_ranged 0 CHURN_STEPS steps) c h

member_ranged : (resume : Bool) (session site : ℕ) (journal : Text) (addresses : List Text)
    → IsMember session site addresses
    → IsInRange (node_command resume session site journal addresses)
member_ranged true session site journal addresses member = member
member_ranged false session site journal addresses member = member

node_with : (resume : Bool) (journal : Text) (addresses : List Text) → length addresses ≤ SITES → (m n : Option ℕ)
    → ((k : ℕ) → m ≡ Some k → (0 ≤ k) × (k ≤ 2 ^ 32 - 1)) → ((k : ℕ) → n ≡ Some k → (1 ≤ k) × (k ≤ length addresses))
    → IsRanged (option_map (λ k. node_command resume k.0 k.1 journal addresses) (both_of m n))
node_with resume journal addresses few None n sessions sites c h = let e = h in cc
node_with resume journal addresses few (Some k) None sessions sites c h = let e = h in cc
node_with resume journal addresses few (Some k) (Some l) sessions sites c h =
    let same : node_command resume k l journal addresses ≡ c = (let e = h in cc) in
    let top : 0 < 2 ^ 32 = lit< tt in
    let session : k ≤ 2 ^ 32 - 1 = (sessions k refl).1 in
    let below : k < 2 ^ 32 = omega (arith, top, session) in
    subst IsInRange same (member_ranged resume k l journal addresses (below, (sites l refl).0, (sites l refl).1, few))

node_counted : (resume : Bool) (session site journal : Text) (addresses : List Text) (b : Bool)
    → nat_lt SITES (length addresses) ≡ b
    → IsRanged (option_map (λ k. node_command resume k.0 k.1 journal addresses)
    (cond b None (both_of (number_from 0 (2 ^ 32 - 1) session) (number_from 1 (length addresses) site))))
node_counted resume session site journal addresses true test c h = let e = h in cc
node_counted resume session site journal addresses false test c h =
    node_with resume journal addresses (ltb-false _ _ test) (number_from 0 (2 ^ 32 - 1) session)
    (number_from 1 (length addresses) site)
    (number_ranged 0 (2 ^ 32 - 1) session) (number_ranged 1 (length addresses) site) c h

node_ranged : (resume session site journal : Option Text) (addresses : Option (List Text))
    → IsRanged (node_by resume session site journal addresses)
node_ranged resume None site journal addresses c h = let e = h in cc
node_ranged resume (Some session) None journal addresses c h = let e = h in cc
node_ranged resume (Some session) (Some site) None addresses c h = let e = h in cc
node_ranged resume (Some session) (Some site) (Some journal) None c h = let e = h in cc
node_ranged resume (Some session) (Some site) (Some journal) (Some addresses) c h =
    node_counted (is_set resume) session site journal addresses (nat_lt SITES (length addresses)) refl c h

-- ---- all commands

abbrev AsksInRange : Form → Type 0
AsksInRange form = (rows : List Row) → IsRanged (form.asks rows)

abbrev AskInRange : List Form → Type 0
AskInRange [] = Unit {0}
AskInRange (form ∷ rest) = AsksInRange form × AskInRange rest

where_taken : (b : Bool) (asked : Option Command) → IsRanged asked → IsRanged (cond b asked None)
where_taken true asked in_range c h = in_range c h
where_taken false asked in_range c h = let e = h in cc

one_ranged : (form : Form) (words : List Text) → AsksInRange form → IsRanged (asked_by form words)
unfolding asked_by
one_ranged form words in_range =
    where_taken (takes_words (app form) words) (form.asks (matches_of (app form) words))
    (in_range (matches_of (app form) words))

where_named : (b : Bool) (this others : Option Command) → IsRanged this → IsRanged others
    → IsRanged (cond b this others)
where_named true this others a rest c h = a c h
where_named false this others a rest c h = rest c h

all_ranged : (fs : List Form) (name : Text) (words : List Text) → AskInRange fs → IsRanged (asked_by_one fs name words)
all_ranged [] name words in_range c h = let e = h in cc
all_ranged (form ∷ rest) name words in_range c h =
    where_named (bytes_eq name form.name) (asked_by form words) (asked_by_one rest name words)
    (one_ranged form words in_range.0) (all_ranged rest name words in_range.1) c h

forms_ranged : AskInRange forms
forms_ranged = (
  (λ rows. replay_ranged (format_or_text (first_of (codes "format") rows)) (is_set (first_of (codes "counts") rows))
      (is_set (first_of (codes "upto-fault") rows))),
  (
    (λ rows. lone_ranged command.Upgrade tt),
    (
      (λ rows. lone_ranged command.Snapshot tt),
      (
        (λ rows. lone_ranged command.View tt),
        (
          (λ rows. lone_ranged (command.Board (is_set (first_of (codes "counts") rows))) tt),
          (
            (λ rows. node_ranged (first_of (codes "resume") rows) (first_of (codes "session") rows)
                (first_of (codes "site") rows)
                (first_of (codes "journal") rows) (all_of (codes "address") rows)),
            (
              (λ rows. rehearse_ranged (first_of (codes "sites") rows)),
              ((λ rows. churn_ranged (first_of (codes "seed") rows) (first_of (codes "steps") rows)), tt),
            ),
          ),
        ),
      ),
    ),
  ),
)

pub asked_in_range : (words : List Text) (c : Command) → command_of words ≡ Some c → IsInRange c
unfolding command_of
asked_in_range [] c h = let e = h in cc
asked_in_range (name ∷ words) c h = all_ranged forms name words forms_ranged c h

pub ok_in_range : (words : List Text) (r : Result Command CommandFault) → IfOk r (λ c. command_of words ≡ Some c)
    → IfOk r IsInRange
ok_in_range words (Ok c) asked = asked_in_range words c asked
ok_in_range words (Err fault) asked = tt
