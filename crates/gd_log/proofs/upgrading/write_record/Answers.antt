use Rattle.std.proofs.Common.{ℕ, List, [], ◌∷◌, ap, sym, ◌∙◌}
use Rattle.gd_effects.specs.Effects.{Print}
use Rattle.gd_effects.proofs.Doing.{does_as}
use Rattle.gd_log.proofs.upgrading.write_record.Goals as goal

pub returns-clause-does : goal.returns-clause-does
returns-clause-does g c seen are input journal link steps =
    let text = sym (c.as_slice.ensures.value ∙ c.gated_of-record.ensures.bytes seen are) in
    does_as (ap (λ (b : List ℕ). Print b ∷ []) text)
    (c.print.ensures.does input journal link steps)
