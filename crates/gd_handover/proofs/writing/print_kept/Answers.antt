use Rattle.std.proofs.Common.{◌∙◌, length, map, refl}
use Rattle.gd_effects.proofs.Doing.{along_done, along_exit, along_from, along_then}
use Rattle.gd_grammar.specs.Drawings.{spelling}
use Rattle.gd_grammar.specs.FieldBytes.{word_bytes}
use Rattle.gd_handover.proofs.PrintLemmas.{prints, piece-first, piece-next, pieces-end}
use Rattle.gd_handover.proofs.writing.print_kept.Goals as goal

pub returns-in_err-print-clause-does : goal.returns-in_err-print-clause-does
returns-in_err-print-clause-does g c input journal link steps =
    along_exit _ (prints (map spelling c.args.kept.now)) c.from_residual.ensures.1 (along_from _ _ refl)
    (λ t. piece-first (word_bytes (length c.args.kept.now)) _ (map spelling c.args.kept.now)
    (c.as_slice.ensures.bytes ∙ c.number_of-number.ensures))
    (c.in_err-print.ensures.does input journal link steps)

pub events-init : goal.events-init
events-init g c input journal link steps =
    along_then (prints (map spelling c.args.kept.now)) (along_from _ _ refl)
    (λ t. piece-first (word_bytes (length c.args.kept.now)) _ (map spelling c.args.kept.now)
    (c.as_slice.ensures.bytes ∙ c.number_of-number.ensures))
    (c.in_ok-print.ensures.does input journal link steps)

pub returns-in_err-print-2-clause-does : goal.returns-in_err-print-2-clause-does
returns-in_err-print-2-clause-does g c input journal link steps =
    along_exit _ (prints (map spelling c.in-Some.rest.now)) c.from_residual-in_err-print-2.ensures.1
    (c.events.invariant input journal link steps)
    (λ t. piece-next spelling c.events.left.now c.in-Some.rest.now c.in-Some.event.now _ c.in-Some.ensures.cases.0
    (c.as_slice-in-Some.ensures.bytes ∙ c.write_event.ensures))
    (c.in_err-print-2.ensures.does input journal link steps)

pub events-preserved : goal.events-preserved
events-preserved g c input journal link steps =
    along_then (prints (map spelling c.in-Some.rest.now)) (c.events.invariant input journal link steps)
    (λ t. piece-next spelling c.events.left.now c.in-Some.rest.now c.in-Some.event.now _ c.in-Some.ensures.cases.0
    (c.as_slice-in-Some.ensures.bytes ∙ c.write_event.ensures))
    (c.in_ok-print-2.ensures.does input journal link steps)

pub returns-clause-does : goal.returns-clause-does
returns-clause-does g c input journal link steps
    = along_done tt (c.events.invariant input journal link steps)
    (λ t. pieces-end spelling c.events.left.now c.in_default.ensures.cases)
