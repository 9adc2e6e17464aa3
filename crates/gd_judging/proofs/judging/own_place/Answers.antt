use Rattle.std.proofs.Common.{rules, ◌≡◌, ◌∙◌, ap₂, ◌-ℤ◌, FitsSigned, w32, w64}
use mir.Syntax.{w128}
use Rattle.std.proofs.lemmas.Int.{to_z-of_z}
use Rattle.gd_judging.specs.Targets.{in_range}
use Rattle.gd_judging.proofs.judging.own_place.Goals as goal

pub returns : goal.returns
returns c =
    let x : FitsSigned w32 c.args.x = search rules in
    let y : FitsSigned w32 c.args.y = search rules in
    let above_x : FitsSigned w64 c.args.above.x = search rules in
    let above_y : FitsSigned w64 c.args.above.y = search rules in
    let own_x : FitsSigned w128 c.difference.result = search rules in
    let own_y : FitsSigned w128 c.difference-2.result = search rules in
    let at_x : c.difference.result ≡ c.args.x -ℤ c.args.above.x = simp to_z-of_z at c.difference.ensures in
    let at_y : c.difference-2.result ≡ c.args.y -ℤ c.args.above.y = simp to_z-of_z at c.difference-2.ensures in
    (simp to_z-of_z at c.in_range.ensures) ∙ ap₂ in_range at_x at_y
