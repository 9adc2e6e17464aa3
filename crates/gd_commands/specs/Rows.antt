-- Words that are written out, and what they ask for.
use Rattle.std.specs.Prelude.{◌≡◌, ◌-◌, ◌^◌, ◌==◌, ℕ, true, false, List, [], ◌∷◌, map, Option, Some, None, codes}
use Rattle.std.specs.Prelude.{if◌then◌else◌}
use Rattle.clap.specs.Words.{Text}
use Rattle.gd_asked.specs.declared.command.Command.{Command}
use Rattle.gd_asked.specs.declared.command.Command.TheVariants.{Replay, Upgrade, Snapshot, View, Board, Node, Rejoin}
use Rattle.gd_asked.specs.declared.command.Command.TheVariants.{Rehearse, Churn}
use Rattle.gd_options.specs.declared.format.Format.TheVariants as format
use Rattle.gd_commands.specs.Commands.{command_of}

-- ---- the words of a line, one space between two of them

abbrev pub in_front : ℕ → List Text → List Text
in_front b [] = (b ∷ []) ∷ []
in_front b (word ∷ words) = (b ∷ word) ∷ words

abbrev pub split : Text → List Text
split [] = [] ∷ []
split (b ∷ bs) = if b == 32 then [] ∷ split bs else in_front b (split bs)

-- ---- rows

-- a line, and the command that its words ask for, or none
pub record Row : Type 0 where
  pub line : Text
  pub asked : Option Command

abbrev pub asks : Text → Command → Row
asks line command = record { line = line; asked = Some command }

abbrev pub refused : Text → Row
refused line = record { line = line; asked = None }

-- the words of each line ask for what its row says
abbrev pub AreMet : List Row → Type 0
AreMet rows = map (λ r. command_of (split r.line)) rows ≡ map (λ r. r.asked) rows

abbrev pub other_rows : List Row
other_rows =
    refused (codes "")
    ∷ refused (codes "paint")
    ∷ refused (codes "Replay")
    ∷ refused (codes "--help")
    ∷ asks (codes "upgrade") Upgrade
    ∷ refused (codes "upgrade x")
    ∷ refused (codes "upgrade --help")
    ∷ asks (codes "snapshot") Snapshot
    ∷ asks (codes "snapshot --") Snapshot
    ∷ refused (codes "snapshot log")
    ∷ refused (codes "snapshot --counts")
    ∷ asks (codes "view") View
    ∷ refused (codes "view -- x")
    ∷ refused (codes "view -h")
    ∷ asks (codes "board") (Board false)
    ∷ asks (codes "board --counts") (Board true)
    ∷ refused (codes "board --counts --counts")
    ∷ refused (codes "board --format text")
    ∷ refused (codes "board cards")
    ∷ []

abbrev pub replay_rows : List Row
replay_rows =
    asks (codes "replay") (Replay format.Text false false)
    ∷ asks (codes "replay --format json --counts") (Replay format.Json true false)
    ∷ asks (codes "replay --counts --format json") (Replay format.Json true false)
    ∷ asks (codes "replay --format=events") (Replay format.Events false false)
    ∷ asks (codes "replay --upto-fault --counts") (Replay format.Text true true)
    ∷ asks (codes "replay --") (Replay format.Text false false)
    ∷ refused (codes "replay --upto")
    ∷ refused (codes "replay --counts --counts")
    ∷ refused (codes "replay --format json --format text")
    ∷ refused (codes "replay --format xml")
    ∷ refused (codes "replay --format JSON")
    ∷ refused (codes "replay --format=")
    ∷ refused (codes "replay --format")
    ∷ refused (codes "replay --counts=true")
    ∷ refused (codes "replay --help")
    ∷ refused (codes "replay -h")
    ∷ refused (codes "replay log")
    ∷ refused (codes "replay ")
    ∷ []

abbrev pub a_and_b : List Text
a_and_b = codes "A" ∷ codes "B" ∷ []

abbrev pub node_rows : List Row
node_rows =
    asks (codes "node --session 7 --site 1 --journal j A B") (Node 7 1 (codes "j") a_and_b)
    ∷ asks (codes "node A --site=1 --session 7 B --journal j") (Node 7 1 (codes "j") a_and_b)
    ∷ asks (codes "node --session 0 --site 2 --journal=-j A B") (Node 0 2 (codes "-j") a_and_b)
    ∷ asks (codes "node --session 4294967295 --site 2 --journal j -- A B") (Node (2 ^ 32 - 1) 2 (codes "j") a_and_b)
    ∷ asks (codes "node --resume --session 7 --site 1 --journal j A B") (Rejoin 7 1 (codes "j") a_and_b)
    ∷ asks (codes "node A --site=1 --session 7 B --resume --journal j") (Rejoin 7 1 (codes "j") a_and_b)
    ∷ refused (codes "node --resume --session 7 --resume --site 1 --journal j A B")
    ∷ refused (codes "node --resume=true --session 7 --site 1 --journal j A B")
    ∷ refused (codes "node --resume --session 7 --site 1 A B")
    ∷ refused (codes "node --session 7 --site 1 --journal j A B --x")
    ∷ refused (codes "node --session 4294967296 --site 1 --journal j A B")
    ∷ refused (codes "node --session -1 --site 1 --journal j A B")
    ∷ refused (codes "node --session 7 --site 0 --journal j A B")
    ∷ refused (codes "node --session 7 --site 3 --journal j A B")
    ∷ refused (codes "node --session 7 --site 1 --journal j")
    ∷ refused (codes "node --session 7 --site 1 A B")
    ∷ refused (codes "node --session 7 --session 7 --site 1 --journal j A B")
    ∷ []

abbrev pub rehearse_rows : List Row
rehearse_rows =
    asks (codes "rehearse --sites 1") (Rehearse 1)
    ∷ asks (codes "rehearse --sites 16") (Rehearse 16)
    ∷ asks (codes "rehearse --sites=003") (Rehearse 3)
    ∷ refused (codes "rehearse")
    ∷ refused (codes "rehearse --sites")
    ∷ refused (codes "rehearse --sites ")
    ∷ refused (codes "rehearse --sites 0")
    ∷ refused (codes "rehearse --sites 17")
    ∷ refused (codes "rehearse --sites +3")
    ∷ refused (codes "rehearse 3")
    ∷ []

abbrev pub churn_rows : List Row
churn_rows =
    asks (codes "churn --seed 0 --steps 0") (Churn 0 0)
    ∷ asks (codes "churn --steps 10000 --seed 18446744073709551615") (Churn (2 ^ 64 - 1) 10000)
    ∷ asks (codes "churn --seed 00000000000000000001 --steps 1") (Churn 1 1)
    ∷ refused (codes "churn --seed 000000000000000000001 --steps 1")
    ∷ refused (codes "churn --seed 18446744073709551616 --steps 1")
    ∷ refused (codes "churn --seed 1 --steps 10001")
    ∷ refused (codes "churn --seed 1")
    ∷ []
