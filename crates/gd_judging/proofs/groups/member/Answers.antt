use Rattle.std.proofs.Common.{rules, ◌≡◌, ◌∙◌, sym, ap₂, FitsSigned, w32, w64, Some}
use mir.Syntax.{w128}
use Rattle.std.proofs.lemmas.Int.{to_z-of_z}
use Rattle.gd_judging.specs.Targets.{in_range}
use Rattle.gd_judging.proofs.InRange.{shifted_some}
use Rattle.gd_judging.proofs.groups.member.Goals as goal

pub returns : goal.returns
returns c =
    let above_x : FitsSigned w64 c.args.named.now.dx = search rules in
    let above_y : FitsSigned w64 c.args.named.now.dy = search rules in
    let wide_x : FitsSigned w128 c.from.result = search rules in
    let wide_y : FitsSigned w128 c.from-2.result = search rules in
    let dx : FitsSigned w32 c.in_ok-dx.dx = search rules in
    let dy : FitsSigned w32 c.in_ok-dx.dy = search rules in
    let from_x : c.from.result ≡ c.args.named.now.dx = simp to_z-of_z at c.from.ensures in
    let from_y : c.from-2.result ≡ c.args.named.now.dy = simp to_z-of_z at c.from-2.ensures in
    let kept : in_range c.args.named.now.dx c.args.named.now.dy
    ≡ Some (c.in_ok-dx.dx, c.in_ok-dx.dy) = ap₂ in_range (sym from_x) (sym from_y)
    ∙ sym (simp to_z-of_z at c.in_range.ensures) ∙ c.in_ok-dx.was in
    simp to_z-of_z (shifted_some c.args.named.now.id c.args.named.now.dx c.args.named.now.dy c.in_ok-dx.dx c.in_ok-dx.dy
    kept)
