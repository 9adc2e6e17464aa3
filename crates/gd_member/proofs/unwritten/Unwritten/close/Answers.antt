use Rattle.std.proofs.Common.{ℕ, ◌+◌, ◌-◌, ap, length, take, ◌∙◌}
use Rattle.gd_member.proofs.Pieces.{all_written, opened}
use Rattle.gd_member.specs.Unwritten.{UnwrittenValue}
use Rattle.gd_member.proofs.unwritten.Unwritten.close.Goals as goal

pub returns : goal.returns
returns c written others are =
    let old = c.self.inside.bytes in
    let popped =
    c.pop.ensures.rest ∙ ap (λ (n : ℕ). take (n - 1) old.items) old.ok.0
    ∙ ap (λ (u : UnwrittenValue). opened u.bytes) c.self.view_is in
    let counted = c.len.ensures ∙ c.pop.new.self.ok.0 ∙ ap length popped in
    all_written written others c.args.self.now are _ (λ i. (c.self.view_is i).place + counted i) c.clear.ensures.items
    (ap (λ (u : UnwrittenValue). u.chains) c.self.view_is)
