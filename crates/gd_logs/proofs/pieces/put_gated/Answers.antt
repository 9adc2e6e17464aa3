use Rattle.std.proofs.Common.{refl}
use Rattle.gd_grammar.proofs.ChainLemmas.{taken-are}
use Rattle.gd_logs.proofs.pieces.put_gated.Goals as goal

pub returns-clause-chains : goal.returns-clause-chains
returns-clause-chains g c = λ seen are.
    let range = rw c.stamp.ensures at c.site.ensures.range in
    rw c.spell-check.ensures.taken
    (taken-are g.K.LogKind.kind c.args.chains.now seen c.args.event.now _ are (range.site_above, range.site_below) refl)
