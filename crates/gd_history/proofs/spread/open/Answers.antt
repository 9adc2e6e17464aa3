use Rattle.std.proofs.Common.{◌∙◌, ap}
use Rattle.gd_chunks.specs.Rows.{joined}
use Rattle.gd_history.proofs.Spreads.{none_joined, none-spread}
use Rattle.gd_history.proofs.spread.open.Goals as goal

pub returns-in_ok-sets-clause-spread : goal.returns-in_ok-sets-clause-spread
returns-in_ok-sets-clause-spread c was =
    none-spread c.in_ok-sets.field-0.items (ap joined c.in_ok-sets.ensures ∙ none_joined 251)
