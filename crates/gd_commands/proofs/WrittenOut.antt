-- What words that are written out ask for, by computing it.
use Rattle.std.proofs.Common.{refl}
use Rattle.clap.proofs.OnLiterals.{clap_on_literals}
use Rattle.gd_commands.specs.Commands.{command_of}
use Rattle.gd_commands.specs.Forms.{asked_by}
use Rattle.gd_commands.specs.Rows.{AreMet, churn_rows, node_rows, other_rows, rehearse_rows, replay_rows}

pub others_are_met : AreMet other_rows
unfolding command_of asked_by clap_on_literals
others_are_met = refl

pub replays_are_met : AreMet replay_rows
unfolding command_of asked_by clap_on_literals
replays_are_met = refl

pub nodes_are_met : AreMet node_rows
unfolding command_of asked_by clap_on_literals
nodes_are_met = refl

pub rehearses_are_met : AreMet rehearse_rows
unfolding command_of asked_by clap_on_literals
rehearses_are_met = refl

pub churns_are_met : AreMet churn_rows
unfolding command_of asked_by clap_on_literals
churns_are_met = refl
