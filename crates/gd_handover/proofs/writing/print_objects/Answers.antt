use Rattle.std.proofs.Common.{◌∙◌, map, refl}
use Rattle.gd_effects.proofs.Doing.{along_done, along_exit, along_from, along_then}
use Rattle.gd_snapshots.specs.SnapshotBytes.{placed_bytes}
use Rattle.gd_handover.proofs.PrintLemmas.{prints, piece-next, pieces-end}
use Rattle.gd_handover.proofs.writing.print_objects.Goals as goal

pub objects-init : goal.objects-init
objects-init g c input journal link steps = along_from _ _ refl

pub returns-in_err-print-clause-does : goal.returns-in_err-print-clause-does
returns-in_err-print-clause-does g c input journal link steps =
    along_exit _ (prints (map placed_bytes c.in-Some.rest.now)) c.from_residual.ensures.1
    (c.objects.invariant input journal link steps)
    (λ t. piece-next placed_bytes c.objects.left.now c.in-Some.rest.now c.in-Some.placed.now _ c.in-Some.ensures.cases.0
    (c.as_slice.ensures.bytes ∙ c.placed_of-piece.ensures))
    (c.in_err-print.ensures.does input journal link steps)

pub objects-preserved : goal.objects-preserved
objects-preserved g c input journal link steps =
    along_then (prints (map placed_bytes c.in-Some.rest.now)) (c.objects.invariant input journal link steps)
    (λ t. piece-next placed_bytes c.objects.left.now c.in-Some.rest.now c.in-Some.placed.now _ c.in-Some.ensures.cases.0
    (c.as_slice.ensures.bytes ∙ c.placed_of-piece.ensures))
    (c.in_ok-print.ensures.does input journal link steps)

pub returns-clause-does : goal.returns-clause-does
returns-clause-does g c input journal link steps
    = along_done tt (c.objects.invariant input journal link steps)
    (λ t. pieces-end placed_bytes c.objects.left.now c.in_default.ensures.cases)
