-- Words in the plain form ask for the command that their values give.
use Rattle.std.proofs.Common.{◌≡◌, option_map, ◌≢◌, ◌∙◌, ◌≤◌, ◌-◌, ◌^◌, ℕ, Bool, true, false, refl, ap, ap₂, arith}
use Rattle.std.proofs.Common.{List, [], ◌∷◌, ◌++◌, codes, length, Option, Some, None, cond, sym, le-leb, le-ltb, nat_le}
use Rattle.std.proofs.Common.{nat_lt, ◌&&◌, true≢false}
use Rattle.std.specs.List.{list_all}
use Rattle.std.specs.Str.Parse.{digits_value}
use Rattle.std.proofs.lemmas.Bool.{leb-true}
use Rattle.clap.specs.Words.{Text}
use Rattle.clap.proofs.OnLiterals.{clap_on_literals}
use Rattle.clap.proofs.WalkLemmas.{both}
use Rattle.gd_base.specs.declared.ranges.TheConstants.{SITES}
use Rattle.gd_options.specs.declared.churn.TheConstants.{CHURN_STEPS}
use Rattle.gd_asked.specs.declared.command.Command.TheVariants as command
use Rattle.gd_options.specs.declared.format.Format.{Format}
use Rattle.gd_options.specs.declared.format.Format.TheVariants as format
use Rattle.gd_commands.specs.Numbers.{is_digit, is_number, number_from}
use Rattle.gd_commands.specs.Forms.{app, asked_by}
use Rattle.gd_commands.specs.Node.{both as both_of, node_command, node_form, node_numbers}
use Rattle.gd_commands.specs.Rehearse.{rehearse_form}
use Rattle.gd_commands.specs.Churn.{churn_form}
use Rattle.gd_commands.specs.Commands.{command_of}
use Rattle.gd_commands.specs.Plain.{Board, IsNumberFrom, IsPlain, IsPlainMember, IsPlainWord, Node, Plain, Rehearse}
use Rattle.gd_commands.specs.Plain.{Rejoin, Replay, Churn, Snapshot, Upgrade, View, member_words, plain_command}
use Rattle.gd_commands.specs.Plain.{plain_words}
use Rattle.gd_commands.proofs.Asked.{asked_where_taken}
use Rattle.gd_commands.proofs.NodeWords.{all_rows, flag_words, node_rows, node_taken}
use Rattle.gd_commands.proofs.PairWords.{churn_rows, churn_taken, rehearse_rows, rehearse_taken}

-- ---- numbers

-- a number begins with a digit, and no digit is a hyphen
no_hyphen : (b : ℕ) → is_digit b ≡ true → b ≢ 45
no_hyphen b digit =
    let low : 48 ≤ b = leb-true 48 b (both (nat_le 48 b) (nat_le b 57) digit).0 in
    λ hyphen. omega (arith, low, hyphen)

number_is_plain : (text : Text) → is_number text ≡ true → IsPlainWord text
number_is_plain [] e = absurd (true≢false (sym e))
number_is_plain (b ∷ bs) e =
    let counted : (nat_le (length (b ∷ bs)) 20 && list_all is_digit (b ∷ bs)) ≡ true = (both _ _ e).1 in
    let digits : list_all is_digit (b ∷ bs) ≡ true = (both _ _ counted).1 in
    no_hyphen b (both (is_digit b) (list_all is_digit bs) digits).0

number_is_taken : (low high : ℕ) (text : Text) → IsNumberFrom low high text
    → number_from low high text ≡ Some (digits_value 10 text)
number_is_taken low high text (number, least, most) =
    let a : nat_le low (digits_value 10 text) ≡ true = le-leb _ _ least in
    let b : nat_le (digits_value 10 text) high ≡ true = le-leb _ _ most in
    rw (number, a, b) refl

-- ---- the commands

replay_asked : (f : Option Format) (counts upto : Bool)
    → command_of (plain_words (Replay f counts upto)) ≡ Some (plain_command (Replay f counts upto))
unfolding command_of asked_by clap_on_literals
replay_asked None false false = refl
replay_asked None false true = refl
replay_asked None true false = refl
replay_asked None true true = refl
replay_asked (Some format.Text) false false = refl
replay_asked (Some format.Text) false true = refl
replay_asked (Some format.Text) true false = refl
replay_asked (Some format.Text) true true = refl
replay_asked (Some format.Json) false false = refl
replay_asked (Some format.Json) false true = refl
replay_asked (Some format.Json) true false = refl
replay_asked (Some format.Json) true true = refl
replay_asked (Some format.Events) false false = refl
replay_asked (Some format.Events) false true = refl
replay_asked (Some format.Events) true false = refl
replay_asked (Some format.Events) true true = refl

upgrade_asked : command_of (plain_words Upgrade) ≡ Some (plain_command Upgrade)
unfolding command_of asked_by clap_on_literals
upgrade_asked = refl

snapshot_asked : command_of (plain_words Snapshot) ≡ Some (plain_command Snapshot)
unfolding command_of asked_by clap_on_literals
snapshot_asked = refl

view_asked : command_of (plain_words View) ≡ Some (plain_command View)
unfolding command_of asked_by clap_on_literals
view_asked = refl

board_asked : (counts : Bool) → command_of (plain_words (Board counts)) ≡ Some (plain_command (Board counts))
unfolding command_of asked_by clap_on_literals
board_asked false = refl
board_asked true = refl

rehearse_asked : (sites : Text) → IsPlain (Rehearse sites)
    → command_of (plain_words (Rehearse sites)) ≡ Some (plain_command (Rehearse sites))
unfolding command_of
rehearse_asked sites range =
    let plain = number_is_plain sites range.0 in
    asked_where_taken rehearse_form (app rehearse_form) _ _ refl (rehearse_taken sites plain)
    (sym (rehearse_rows sites plain))
    ∙ ap (λ n. option_map command.Rehearse n) (number_is_taken 1 SITES sites range)

churn_asked : (seed steps : Text) → IsPlain (Churn seed steps)
    → command_of (plain_words (Churn seed steps)) ≡ Some (plain_command (Churn seed steps))
unfolding command_of
churn_asked seed steps (seeds, most) =
    let plain_seed = number_is_plain seed seeds.0 in
    let plain_steps = number_is_plain steps most.0 in
    asked_where_taken churn_form (app churn_form) _ _ refl (churn_taken seed steps plain_seed plain_steps)
    (sym (churn_rows seed steps plain_seed plain_steps))
    ∙ ap₂ (λ a b. option_map (λ n. command.Churn n.0 n.1) (both_of a b)) (number_is_taken 0 (2 ^ 64 - 1) seed seeds)
    (number_is_taken 0 CHURN_STEPS steps most)

-- what the values of `node` ask for, where its flag is there or not
node_meant : (resume : Bool) (session site journal : Text) (addresses : List Text)
    → node_form.asks (all_rows resume session site journal addresses)
    ≡ option_map (λ n. node_command resume n.0 n.1 journal addresses) (node_numbers session site (length addresses))
node_meant true session site journal addresses = refl
node_meant false session site journal addresses = refl

member_asked : (resume : Bool) (session site journal : Text) (addresses : List Text)
    → IsPlainMember session site journal addresses
    → command_of (codes "node" ∷ (flag_words resume ++ member_words session site journal addresses))
    ≡ Some (node_command resume (digits_value 10 session) (digits_value 10 site) journal addresses)
unfolding command_of
member_asked resume session site journal [] (sessions, range, plain, all, most)
    = absurd (omega (arith, range.1, range.2))
member_asked resume session site journal (a ∷ rest) (sessions, range, plain, all, most) =
    let n = number_is_plain session sessions.0 in
    let s = number_is_plain site range.0 in
    let few : nat_lt SITES (length (a ∷ rest)) ≡ false = le-ltb _ _ most in
    asked_where_taken node_form (app node_form) _ _ refl
    (node_taken resume session site journal a rest n s plain all most)
    (sym (node_rows resume session site journal a rest n s plain all))
    ∙ node_meant resume session site journal (a ∷ rest)
    ∙ (λ i. option_map (λ m. node_command resume m.0 m.1 journal (a ∷ rest)) (cond (few i) None
    (both_of (number_is_taken 0 (2 ^ 32 - 1) session sessions i) (number_is_taken 1 (length (a ∷ rest)) site range i))))

pub plain_is_asked : (plain : Plain) → IsPlain plain → command_of (plain_words plain) ≡ Some (plain_command plain)
plain_is_asked (Replay f counts upto) range = replay_asked f counts upto
plain_is_asked Upgrade range = upgrade_asked
plain_is_asked Snapshot range = snapshot_asked
plain_is_asked View range = view_asked
plain_is_asked (Board counts) range = board_asked counts
plain_is_asked (Node session site journal addresses) range = member_asked false session site journal addresses range
plain_is_asked (Rejoin session site journal addresses) range = member_asked true session site journal addresses range
plain_is_asked (Rehearse sites) range = rehearse_asked sites range
plain_is_asked (Churn seed steps) range = churn_asked seed steps range
