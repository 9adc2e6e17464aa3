use Rattle.std.proofs.Common.{◌≡◌, drop, not}
use Rattle.std.specs.List.{list_all}
use Rattle.gd_model.specs.Relations.{Touch, meets, touches}
use Rattle.gd_canvas.specs.Kept.{op_of}
use Rattle.gd_canvas.proofs.relations.misses_all.Given as goal

abbrev pub invariant-loop-place : goal.invariant-loop-place
invariant-loop-place l =
    let us = touches l.t (op_of l.f) in
    let test = λ (u : Touch). not (meets (l.id, l.part) u) in
    list_all test (drop l.place us) ≡ list_all test us
