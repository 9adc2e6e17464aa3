use Rattle.gd_commands.proofs.WrittenOut.{churns_are_met, nodes_are_met, others_are_met, rehearses_are_met}
use Rattle.gd_commands.proofs.WrittenOut.{replays_are_met}
use Rattle.gd_commands.proofs.laws.written_words_are_met.Goals as goal

pub returns : goal.returns
returns c = record {
  replay = replays_are_met;
  node = nodes_are_met;
  rehearse = rehearses_are_met;
  churn = churns_are_met;
  others = others_are_met;
}
