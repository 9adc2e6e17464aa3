use Rattle.std.proofs.Common.{◌∙◌}
use Rattle.gd_grammar.proofs.ChainLemmas.{taken-are}
use Rattle.gd_logs.proofs.pieces.gated_of.Goals as goal

pub returns-clause-chains : goal.returns-clause-chains
returns-clause-chains g c = λ seen are.
    let range = rw c.stamp.ensures at c.site.ensures.range in
    rw (c.take-check.ensures.taken, c.site.ensures.value, c.stamp.ensures)
    (taken-are g.K.LogKind.kind c.args.chains.now seen c.args.event.now _ are
    (range.site_above, range.site_below)
    (c.as_slice.ensures.bytes ∙ c.write_event_of.ensures))
