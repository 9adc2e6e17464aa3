use Rattle.std.proofs.Common.{ℕ, List, ◌∷◌, ◌++◌, ◌∙◌, ap, refl}
use Rattle.gd_grammar.specs.LogBytes.{gate, record_bytes}
use Rattle.gd_logs.proofs.GestureLemmas.{records-more}
use Rattle.gd_logs.proofs.pieces.Records.add.Goals as goal

pub returns : goal.returns
returns g c = λ seen events are.
    let before = rw (← c.self.view_is) at are in
    let kind = g.K.LogKind.kind in
    let one = gate ∷ record_bytes kind kind.newest (seen ++ events) c.args.event.now in
    records-more kind seen events c.args.event.now _ _ one before refl
    (c.put_gated.ensures.bytes _ before.chained ∙ ap (λ (l : List ℕ). l ++ one) c.in_ok-reserve.ensures.items)
    (c.put_gated.ensures.chains _ before.chained)
