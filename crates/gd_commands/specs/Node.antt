-- The form of `node`: `[--resume] --session N --site S --journal PATH ADDR ..`, with N below 2^32, 1 to 16 addresses,
-- and S from 1 to their number.
use Rattle.std.specs.Prelude.{◌-◌, ◌^◌, ℕ, nat_lt, Bool, true, false, List, [], ◌∷◌, Option, Some, None, codes, length}
use Rattle.std.specs.Prelude.{map, if◌then◌else◌, option_map}
use Rattle.std.specs.Borrow.{Bor}
use Rattle.clap.specs.Lexer.{usize_max}
use Rattle.clap.specs.Words.{Rule, Text, all_of, first_of, new_rule}
use Rattle.gd_base.specs.declared.ranges.TheConstants.{SITES}
use Rattle.gd_asked.specs.declared.command.Command.{Command}
use Rattle.gd_asked.specs.declared.command.Command.TheVariants as command
use Rattle.gd_commands.specs.Forms.{Form, flag_rule, is_set, value_rule}
use Rattle.gd_commands.specs.Numbers.{number_from}

-- a required positional with one value or more
abbrev pub addresses_rule : Rule
addresses_rule = record (new_rule (codes "address")) {
  range = Some (record { start_inclusive = 1; end_inclusive = usize_max });
  required = true;
}

abbrev pub both : Option ℕ → Option ℕ → Option (ℕ × ℕ)
both (Some m) (Some n) = Some (m, n)
both (Some m) None = None
both None n = None

-- the session and the site, where there are so many addresses
abbrev pub node_numbers : Text → Text → ℕ → Option (ℕ × ℕ)
node_numbers session site count =
    if nat_lt SITES count then None else both (number_from 0 (2 ^ 32 - 1) session) (number_from 1 count site)

-- to begin a journal, or to go on from it
abbrev pub node_command : Bool → ℕ → ℕ → Text → List Text → Command
node_command false session site journal addresses = command.Node session site journal addresses
node_command true session site journal addresses = command.Rejoin session site journal addresses

abbrev pub node_by : Option Text → Option Text → Option Text → Option Text → Option (List Text) → Option Command
node_by resume (Some session) (Some site) (Some journal) (Some addresses) =
    option_map (λ n. node_command (is_set resume) n.0 n.1 journal addresses)
    (node_numbers session site (length addresses))
node_by _ _ _ _ _ = None

abbrev pub node_form : Form
node_form =
    record {
      name = codes "node";
      arguments =
          flag_rule (codes "resume")
          ∷ value_rule (codes "session") ∷ value_rule (codes "site") ∷ value_rule (codes "journal")
          ∷ addresses_rule
          ∷ [];
      asks = λ rows. node_by (first_of (codes "resume") rows) (first_of (codes "session") rows)
          (first_of (codes "site") rows) (first_of (codes "journal") rows) (all_of (codes "address") rows);
    }

-- the texts behind references, if there are some
abbrev pub texts_of : Option (Bor (List (Bor Text))) → Option (List Text)
texts_of = option_map (λ s. map (λ v. v.now) s.now)
