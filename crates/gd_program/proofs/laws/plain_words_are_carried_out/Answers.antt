use Rattle.std.proofs.Common.{ap}
use Rattle.gd_commands.proofs.PlainForms.{plain_is_asked}
use Rattle.gd_commands.specs.Plain.Plain.{Board, Churn, Node, Rehearse, Rejoin, Replay, Snapshot, Upgrade, View}
use Rattle.gd_run.specs.Runs.{effects_of, end_of}
use Rattle.gd_program.proofs.laws.plain_words_are_carried_out.Goals as goal

pub returns-clause-effects : goal.returns-clause-effects
returns-clause-effects c
    = λ p contents input entries is. ap (λ k. effects_of k contents input entries) (plain_is_asked p is)

pub returns-clause-end : goal.returns-clause-end
returns-clause-end c = λ p contents input is. ap (λ k. end_of k contents input) (plain_is_asked p is)

pub returns-clause-replay : goal.returns-clause-replay
returns-clause-replay c =
    λ format counts upto contents input entries. returns-clause-effects c
    (Replay format counts upto) contents input entries tt

pub returns-clause-upgrade : goal.returns-clause-upgrade
returns-clause-upgrade c = λ contents input entries. returns-clause-effects c Upgrade contents input entries tt

pub returns-clause-snapshot : goal.returns-clause-snapshot
returns-clause-snapshot c = λ contents input entries. returns-clause-effects c Snapshot contents input entries tt

pub returns-clause-view : goal.returns-clause-view
returns-clause-view c = λ contents input entries. returns-clause-effects c View contents input entries tt

pub returns-clause-board : goal.returns-clause-board
returns-clause-board c
    = λ counts contents input entries. returns-clause-effects c (Board counts) contents input entries tt

pub returns-clause-node : goal.returns-clause-node
returns-clause-node c
    = λ session site journal addresses contents input entries is. returns-clause-effects c
    (Node session site journal addresses) contents input entries is

pub returns-clause-node_end : goal.returns-clause-node_end
returns-clause-node_end c
    = λ session site journal addresses contents input is. returns-clause-end c (Node session site journal addresses)
    contents input is

pub returns-clause-rejoin : goal.returns-clause-rejoin
returns-clause-rejoin c
    = λ session site journal addresses contents input entries is. returns-clause-effects c
    (Rejoin session site journal addresses) contents input entries is

pub returns-clause-rejoin_end : goal.returns-clause-rejoin_end
returns-clause-rejoin_end c
    = λ session site journal addresses contents input is. returns-clause-end c (Rejoin session site journal addresses)
    contents input is

pub returns-clause-rehearse : goal.returns-clause-rehearse
returns-clause-rehearse c
    = λ sites contents input entries is. returns-clause-effects c (Rehearse sites) contents input entries is

pub returns-clause-churn : goal.returns-clause-churn
returns-clause-churn c
    = λ seed steps contents input entries is. returns-clause-effects c (Churn seed steps) contents input entries is
