use Rattle.std.proofs.Common.{rules, FitsSigned, refl, sym, w64, ◌∙◌}
use Rattle.std.proofs.lemmas.Int.{to_z-of_z}
use Rattle.gd_embed.proofs.held.Held.parted.Goals as goal

pub returns-in-Some : goal.returns-in-Some
returns-in-Some c slow written st =
    let fits : FitsSigned w64 c.from.result = search rules in (
      refl,
      (
        c.in-Some.count,
        (sym (c.in-Some.ensures slow written st), to_z-of_z w64 c.from.result fits ∙ c.from.ensures),
      ),
    )

pub returns-in-None : goal.returns-in-None
returns-in-None c slow written st = (refl, sym (c.in-None.ensures slow written st))
