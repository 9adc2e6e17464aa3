use Rattle.std.proofs.Common.{ℕ, [], ◌∷◌, ◌++◌, ◌-◌, ap, refl, take, ◌∙◌}
use Rattle.gd_base.specs.declared.version.Version.TheVariants.{Three}
use Rattle.gd_grammar.specs.Drawings.{drawings}
use Rattle.gd_grammar.specs.LogBytes.{gate, record_bytes}
use Rattle.gd_member.proofs.Pieces.{one_added, opened}
use Rattle.gd_member.specs.Unwritten.{UnwrittenValue}
use Rattle.gd_member.proofs.unwritten.Unwritten.add.Goals as goal

pub returns : goal.returns
returns c written others are =
    let old = c.self.inside.bytes in
    let popped =
    c.pop.ensures.rest ∙ ap (λ (n : ℕ). take (n - 1) old.items) old.ok.0
    ∙ ap (λ (u : UnwrittenValue). opened u.bytes) c.self.view_is in
    let chained = (rw (← c.self.view_is) at are).chained in
    let one = gate ∷ record_bytes drawings Three (written ++ others) c.args.event.now in
    one_added written others c.args.self.now are c.args.event.now _ one
    (ap (λ (u : UnwrittenValue). u.place) c.self.view_is)
    (c.push_reserved.ensures.items
    ∙ (λ i. (c.put_gated.ensures.bytes (written ++ others) chained ∙ (λ j. popped j ++ one)) i ++ 0 ∷ []))
    refl
    (c.put_gated.ensures.chains (written ++ others) chained)
