use Rattle.std.proofs.Common.{◌≡◌, ◌∙◌, ap, subst}
use Rattle.std.specs.Prelude.{Err}
use Rattle.gd_outside.specs.Told.{told}
use Rattle.gd_outside.specs.declared.status.Status.TheVariants.{Done, BadLog}
use Rattle.gd_effects.specs.Endings.{no_effects}
use Rattle.gd_effects.proofs.RunEnds.{ends_printed, ends_when, ends_by_read, ends_by_memory}
use Rattle.gd_logs.specs.Logs.{LogIs}
use Rattle.gd_logs.specs.declared.log.ReadError.TheVariants.{Log}
use Rattle.gd_logs.specs.declared.stopped.LogFault.TheVariants.{Bad}
use Rattle.gd_grammar.specs.Drawings.{drawings}
use Rattle.gd_log.proofs.ReplayLemmas.{owes-pieces, owes-line}
use Rattle.gd_reading.proofs.ReaderLemmas.{printed_end, silent_by}
use Rattle.gd_log.proofs.upgrading.upgrade.Goals as goal

pub returns-in-Ok-clause-ends : goal.returns-in-Ok-clause-ends
returns-in-Ok-clause-ends g c = λ journal link steps.
    rw c.status_of.ensures (ends_when (λ t. tt) (λ t. owes-pieces _ _ _ (c.in-Ok.ensures.exact t))
    (ends_printed no_effects c.in-Ok.ensures.called.count c.in-Ok.ensures.called.handed.was c.write_log-done.result Done
    tt
    (λ input journal link. rw c.upgraded.ensures at (c.write_log-done.ensures.does input journal link steps))))

pub returns-in-Err-Memory-clause-ends : goal.returns-in-Err-Memory-clause-ends
returns-in-Err-Memory-clause-ends g c = λ journal link steps.
    ends_by_memory (g.K.Sink.seen c.args.output.now) journal link steps _ _ _ c.in-Err-Memory.ensures.called

pub returns-in-Err-Log-Read-clause-ends : goal.returns-in-Err-Log-Read-clause-ends
returns-in-Err-Log-Read-clause-ends g c = λ journal link steps.
    ends_by_read (g.K.Sink.seen c.args.output.now) journal link steps _ _ _ c.in-Err-Log-Read.ensures.called
    (ap Err (c.in-Err-Log-Read.field-0-is ∙ ap Log c.in-Err-Log-Read.field-0-0-is))

pub returns-in-Err-Log-Bad-clause-ends : goal.returns-in-Err-Log-Bad-clause-ends
returns-in-Err-Log-Bad-clause-ends g c = λ journal link steps.
    let bad : c.in-Err-Log-Bad.field-0
    ≡ Log (Bad c.in-Err-Log-Bad.at c.in-Err-Log-Bad.why) = c.in-Err-Log-Bad.field-0-is
    ∙ ap Log c.in-Err-Log-Bad.field-0-0-is in
    rw c.status_of-in-Err-Log-Bad.ensures (ends_when (λ t. tt) (λ t.
    let h = subst (λ e. LogIs drawings (Err e) (told (g.S.Source.seen c.args.source.now).left)) bad
    (c.in-Err-Log-Bad.ensures.exact t) in
    owes-line (told (g.S.Source.seen c.args.source.now).left) c.in-Err-Log-Bad.at c.in-Err-Log-Bad.why h)
    (ends_printed no_effects c.in-Err-Log-Bad.ensures.called.count c.in-Err-Log-Bad.ensures.called.handed.was
    c.refuse.result BadLog tt
    (λ input journal link. rw (c.in-Err-Log-Bad.at-is, c.in-Err-Log-Bad.why-is) at
    (c.refuse.ensures.does input journal link steps))))

pub returns-in-Ok-clause-kinds : goal.returns-in-Ok-clause-kinds
returns-in-Ok-clause-kinds g c
    = rw c.status_of.ensures
    (printed_end c.write_log-done.result Done tt
    (λ input journal link. c.write_log-done.ensures.does input journal link 0))

pub returns-in-Ok-clause-silent : goal.returns-in-Ok-clause-silent
returns-in-Ok-clause-silent g c
    = silent_by _ c.write_log-done.result Done c.status_of.ensures tt
    (λ input journal link. c.write_log-done.ensures.does input journal link 0)
    (λ e. absurd (let k = c.write_log-done.ensures.end _ e in cc))

pub returns-in-Err-Log-Bad-clause-kinds : goal.returns-in-Err-Log-Bad-clause-kinds
returns-in-Err-Log-Bad-clause-kinds g c =
    rw c.status_of-in-Err-Log-Bad.ensures
    (printed_end c.refuse.result BadLog tt (λ input journal link. c.refuse.ensures.does input journal link 0))

pub returns-in-Err-Log-Bad-clause-silent : goal.returns-in-Err-Log-Bad-clause-silent
returns-in-Err-Log-Bad-clause-silent g c =
    silent_by _ c.refuse.result BadLog c.status_of-in-Err-Log-Bad.ensures tt
    (λ input journal link. c.refuse.ensures.does input journal link 0)
    (λ e. absurd (let k = c.refuse.ensures.end _ e in cc))
