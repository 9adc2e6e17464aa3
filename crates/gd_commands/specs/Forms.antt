-- The form of a command: its name, the arguments that `clap` is to take behind it, and what their values ask for.
--
-- Which words are taken, and which values they give, is `clap`'s own definition of a simple command. It has no flags
-- for help or for a version.
use Rattle.std.specs.Prelude.{Bool, true, false, List, Option, Some, None, bytes_eq, codes, if◌then◌else◌, option_map}
use Rattle.std.specs.List.{fold}
use Rattle.std.specs.Borrow.{Bor}
use Rattle.clap.specs.Words.{App, Row, Rule, Text, fault_of, matches_of, new_app, new_rule, with_rule}
use Rattle.clap.specs.Simple.{on_top}
use Rattle.clap.specs.Walk.{is_empty}
use Rattle.clap.specs.declared.builder.action.ArgAction.TheVariants.{SetTrue}
use Rattle.gd_asked.specs.declared.command.Command.{Command}

pub record Form : Type 0 where
  pub name : Text
  pub arguments : List Rule
  pub asks : List Row → Option Command

-- a command that reads the words behind its name, and has no flags of `clap`'s own
abbrev pub bare : Text → App
bare name = on_top (λ s. record s {
  no_binary_name = true;
  disable_help_flag = true;
  disable_version_flag = true;
}) (new_app name)

-- `clap`'s command for a form
abbrev pub app : Form → App
app form = fold with_rule (bare form.name) form.arguments

-- a required option with one value
abbrev pub value_rule : Text → Rule
value_rule name = record (new_rule name) { long = Some name; required = true }

-- an option without a value, which may be there or not
abbrev pub flag_rule : Text → Rule
flag_rule name = record (new_rule name) { long = Some name; action = Some SetTrue }

-- a flag that is there has the value `true`, and otherwise `false`
abbrev pub is_set : Option Text → Bool
is_set None = false
is_set (Some word) = bytes_eq word (codes "true")

abbrev pub takes_words : App → List Text → Bool
takes_words a words = is_empty (fault_of a words)

-- what the words behind a command's name ask for
unfoldable pub asked_by : Form → List Text → Option Command
asked_by form words = if takes_words (app form) words then form.asks (matches_of (app form) words) else None

-- the text behind a reference, if there is one
abbrev pub text_of : Option (Bor Text) → Option Text
text_of = option_map (λ s. s.now)
