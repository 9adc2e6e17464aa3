use Rattle.std.proofs.Common.{[], ◌∷◌, ◌++◌, refl}
use Rattle.gd_grammar.specs.Drawings.{drawings}
use Rattle.gd_grammar.proofs.ChainLemmas.{none-are}
use Rattle.gd_effects.proofs.Doing.{along_from, along_then, along_last, along_exit}
use Rattle.gd_log.proofs.PieceLemmas.{pieces, pieces-head, pieces-record, pieces-end}
use Rattle.gd_log.proofs.upgrading.write_log.Goals as goal

pub returns-in_err-print-clause-does : goal.returns-in_err-print-clause-does
returns-in_err-print-clause-does g c input journal link steps =
    along_exit _ (pieces [] c.args.events) c.from_residual.ensures.1 (along_from _ _ refl)
    (λ t. pieces-head c.args.header c.args.events _ _ c.requires.newest c.as_slice.ensures.bytes c.write_header.ensures)
    (c.in_err-print.ensures.does input journal link steps)

pub records-init : goal.records-init
records-init g c =
    rw (c.into_events-left.ensures, c.new-chains.ensures) (
      [],
      none-are drawings,
      λ input journal link steps.
          along_then (pieces [] c.args.events) (along_from _ _ refl)
          (λ t. pieces-head c.args.header c.args.events _ _ c.requires.newest c.as_slice.ensures.bytes
          c.write_header.ensures)
          (c.in_ok-print.ensures.does input journal link steps),
    )

pub returns-in_err-write_record-clause-does : goal.returns-in_err-write_record-clause-does
returns-in_err-write_record-clause-does g c input journal link steps =
    let seen = c.records.invariant.0 in
    along_exit _ (pieces (seen ++ c.in-Some.event ∷ []) c.next.new.self) c.from_residual-in_err-write_record.ensures.1
    (c.records.invariant.2 input journal link steps)
    (λ t. pieces-record seen c.records.left c.next.new.self c.in-Some.event c.in-Some.ensures)
    (c.in_err-write_record.ensures.does seen c.records.invariant.1 input journal link steps)

pub records-preserved : goal.records-preserved
records-preserved g c =
    let seen = c.records.invariant.0 in (
      seen ++ c.in-Some.event ∷ [],
      c.in_ok-write_record.ensures.chains seen c.records.invariant.1,
      λ input journal link steps.
          along_then (pieces (seen ++ c.in-Some.event ∷ []) c.next.new.self)
          (c.records.invariant.2 input journal link steps)
          (λ t. pieces-record seen c.records.left c.next.new.self c.in-Some.event c.in-Some.ensures)
          (c.in_ok-write_record.ensures.does seen c.records.invariant.1 input journal link steps),
    )

pub returns-clause-does : goal.returns-clause-does
returns-clause-does g c input journal link steps =
    along_last (c.records.invariant.2 input journal link steps)
    (λ t. pieces-end c.records.invariant.0 c.records.left c.in_default.ensures.0)
    (c.print-2.ensures.does input journal link steps)
