use Rattle.std.proofs.Common.{◌≡◌, drop}
use Rattle.std.specs.List.{list_all}
use Rattle.gd_model.specs.Relations.{misses, touches}
use Rattle.gd_canvas.specs.Kept.{op_of}
use Rattle.gd_canvas.proofs.relations.independent.Given as goal

abbrev pub invariant-loop-place : goal.invariant-loop-place
invariant-loop-place l =
    let us = touches l.s (op_of l.e) in
    let test = misses (touches l.t (op_of l.f)) in
    list_all test (drop l.place us) ≡ list_all test us
