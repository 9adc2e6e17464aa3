use Rattle.std.proofs.Common.{◌∙◌}
use Rattle.gd_logs.proofs.GestureLemmas.{records-none}
use Rattle.gd_logs.proofs.pieces.Records.new.Goals as goal

pub returns-clause-none : goal.returns-clause-none
returns-clause-none g c =
    λ seen are. records-none g.K.LogKind.kind seen _ _ _ c.new.ensures.items (c.copy.ensures ∙ c.chains.ensures) are
