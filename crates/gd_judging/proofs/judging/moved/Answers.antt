use Rattle.std.proofs.Common.{rules, ◌∙◌, sym, ◌-ℤ◌, FitsSigned, w32}
use Rattle.std.proofs.lemmas.Int.{to_z-of_z}
use Rattle.gd_judging.proofs.InRange.{moved_some, moved_none}
use Rattle.gd_judging.proofs.judging.moved.Goals as goal

pub returns-in-Some : goal.returns-in-Some
returns-in-Some c =
    let x : FitsSigned w32 c.args.x = search rules in
    let y : FitsSigned w32 c.args.y = search rules in
    let own_x : FitsSigned w32 c.in-Some.x = search rules in
    let own_y : FitsSigned w32 c.in-Some.y = search rules in
    simp to_z-of_z
    (moved_some c.args.id (c.args.x -ℤ c.args.above.x) (c.args.y -ℤ c.args.above.y) c.in-Some.x c.in-Some.y
    (simp to_z-of_z at (sym c.own_place.ensures ∙ c.in-Some.is)))

pub returns-in-None : goal.returns-in-None
returns-in-None c =
    let x : FitsSigned w32 c.args.x = search rules in
    let y : FitsSigned w32 c.args.y = search rules in
    moved_none c.args.id (c.args.x -ℤ c.args.above.x) (c.args.y -ℤ c.args.above.y)
    (simp to_z-of_z at (sym c.own_place.ensures ∙ c.in-None.is))
