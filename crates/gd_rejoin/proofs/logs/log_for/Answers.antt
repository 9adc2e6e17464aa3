use Rattle.std.proofs.Common.{◌≡◌, ◌++◌, ◌∙◌, refl, sym, ap, length, nat_lt, false, arith, rules}
use Rattle.std.specs.Prelude.{Err}
use Rattle.std.proofs.lemmas.List.{append-nil}
use Rattle.std.proofs.lemmas.Result.{err_from_is_err_and}
use Rattle.gd_logs.specs.declared.log.ReadError.TheVariants.{Log}
use Rattle.gd_logs.specs.declared.stopped.LogFault.TheVariants.{Read}
use Rattle.gd_grammar.proofs.DrawingKind.{drawing_laws}
use Rattle.gd_rejoin.proofs.FoundLemmas.{equal-by_flag, differs-by_flag, found-error, found-other, found-short}
use Rattle.gd_rejoin.proofs.FrontLemmas.{closes-stays, error-stays}
use Rattle.gd_rejoin.proofs.logs.log_for.Goals as goal

pub returns-in_err-log-clause-fault : goal.returns-in_err-log-clause-fault
returns-in_err-log-clause-fault c =
    let p = err_from_is_err_and c.from_residual.result c.from_residual.ensures.1 in
    let error = c.in_err-log.field-0.0 in
    let sure : error ≡ Log Read → ⊥ = λ e. absurd (omega (arith, c.in_err-log.ensures.called.cause (ap Err e))) in
    rw (p.1, p.2) (λ more short. found-error c.args.header.now (c.args.front.items ++ more) error sure
    (error-stays drawing_laws error c.args.front.items more short
    (rw c.from_bytes-source.ensures at (c.in_err-log.ensures.fault refl))))

pub returns-then-not-log-clause-fault : goal.returns-then-not-log-clause-fault
returns-then-not-log-clause-fault c =
    let whole = rw c.from_bytes-source.ensures at (c.in_ok-log.ensures.exact refl) in
    let size : c.len-size.result ≡ length c.args.front.items = (search rules) in
    let shut : nat_lt c.in_ok-log.log.place (length c.args.front.items) ≡ false = sym whole.2 ∙ c.if-not-log.true in
    λ more short. rw (short refl, append-nil c.args.front.items, size)
    (found-short c.args.header.now c.args.front.items c.in_ok-log.log.header c.in_ok-log.log.events whole.0
    (rw whole.1 at shut))

pub returns-then-ne-clause-fault : goal.returns-then-ne-clause-fault
returns-then-ne-clause-fault c = λ more short.
    found-other c.args.header.now (c.args.front.items ++ more) c.in_ok-log.log.header c.in_ok-log.log.events
    (closes-stays drawing_laws c.in_ok-log.log.header c.in_ok-log.log.events c.args.front.items more
    c.in_ok-log.ensures.ruled
    (rw c.from_bytes-source.ensures at (c.in_ok-log.ensures.closes refl c.if-not-log.false)))
    (differs-by_flag c.in_ok-log.log.header c.args.header.now (sym c.ne.ensures ∙ c.if-ne.true))

pub returns-clause-log : goal.returns-clause-log
returns-clause-log c =
    rw (← equal-by_flag c.in_ok-log.log.header c.args.header.now (sym c.ne.ensures ∙ c.if-ne.false)) (λ more. record {
      ruled = c.in_ok-log.ensures.ruled;
      closes = λ _. closes-stays drawing_laws c.in_ok-log.log.header c.in_ok-log.log.events c.args.front.items more
          c.in_ok-log.ensures.ruled
          (rw c.from_bytes-source.ensures at (c.in_ok-log.ensures.closes refl c.if-not-log.false));
      gate = (c.in_ok-log.ensures.exact refl).1;
      chained = c.in_ok-log.ensures.chained;
      near = c.in_ok-log.ensures.near;
    })
