use Rattle.std.proofs.Common.{◌∙◌, refl}
use Rattle.gd_effects.proofs.Doing.{along_exit, along_from, along_last, along_then}
use Rattle.gd_handover.proofs.PieceLemmas.{kept_few}
use Rattle.gd_handover.proofs.PrintLemmas.{prints, kept_pieces, behind_front, pieces-front, pieces-objects, pieces-kept}
use Rattle.gd_handover.proofs.writing.write_snapshot.Goals as goal

pub returns-in_err-print-clause-does : goal.returns-in_err-print-clause-does
returns-in_err-print-clause-does g c input journal link steps =
    along_exit _ (prints (behind_front c.args.snapshot.now)) c.from_residual.ensures.1 (along_from _ _ refl)
    (λ t. pieces-front c.args.snapshot.now c.front_of-front.result _ c.as_slice.ensures.bytes c.front_of-front.ensures)
    (c.in_err-print.ensures.does input journal link steps)

pub returns-in_err-print_objects-clause-does : goal.returns-in_err-print_objects-clause-does
returns-in_err-print_objects-clause-does g c input journal link steps =
    along_exit _ (prints (kept_pieces c.args.snapshot.now)) c.from_residual-in_err-print_objects.ensures.1
    (along_then (prints (behind_front c.args.snapshot.now)) (along_from _ _ refl)
    (λ t. pieces-front c.args.snapshot.now c.front_of-front.result _ c.as_slice.ensures.bytes c.front_of-front.ensures)
    (c.in_ok-print.ensures.does input journal link steps))
    (λ t. pieces-objects c.args.snapshot.now _ c.objects.ensures.objects)
    (c.in_err-print_objects.ensures.does input journal link steps)

pub print_kept-requires : goal.print_kept-requires
print_kept-requires g c
    = rw (c.as_slice-2.ensures, c.kept.ensures.kept) (kept_few c.args.snapshot.now c.kept.ensures.good)

pub returns-clause-does : goal.returns-clause-does
returns-clause-does g c input journal link steps =
    along_last
    (along_then (prints (kept_pieces c.args.snapshot.now))
    (along_then (prints (behind_front c.args.snapshot.now)) (along_from _ _ refl)
    (λ t. pieces-front c.args.snapshot.now c.front_of-front.result _ c.as_slice.ensures.bytes c.front_of-front.ensures)
    (c.in_ok-print.ensures.does input journal link steps))
    (λ t. pieces-objects c.args.snapshot.now _ c.objects.ensures.objects)
    (c.in_ok-print_objects.ensures.does input journal link steps))
    (λ t. pieces-kept c.args.snapshot.now _ (c.as_slice-2.ensures ∙ c.kept.ensures.kept))
    (c.print_kept.ensures.does input journal link steps)
