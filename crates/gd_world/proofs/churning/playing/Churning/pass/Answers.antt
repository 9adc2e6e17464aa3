use Rattle.std.proofs.Common.{◌≡◌, ℕ, ◌+◌, length, ◌∙◌, ap, arith}
use Rattle.gd_lines.specs.declared.command.ScriptLine.TheVariants as script
use Rattle.gd_world.proofs.ChurnWork.{pass_front}
use Rattle.gd_world.proofs.Following.{gets_as, gets_exit}
use Rattle.gd_world.specs.Playing.{Follows}
use Rattle.gd_worlds.specs.Churn.{passed, with_line}
use Rattle.gd_world.proofs.churning.playing.Churning.pass.Goals as goal

pub returns-in_err-take_line : goal.returns-in_err-take_line
returns-in_err-take_line g c lines slow before follows =
    gets_exit (lines + 2) c.take_line.new.self _ c.from_residual.result c.from_residual.ensures.1
    (pass_front slow c.args.from c.args.to) (c.in_err-take_line.ensures lines slow before follows)

pub overflow_cast-mail : goal.overflow_cast-mail
overflow_cast-mail g c =
    let r = c.requires in
    let h : Follows (r.0 + 1) (with_line r.1 (script.Send c.args.from c.args.to)) r.2 c.take_line.new.self
    c.take_line.new.steps = c.in_ok-take_line.ensures r.0 r.1 r.2 r.3 in
    omega (arith, h.mail, c.mails-mail.ensures, r.4)

pub take_line-requires-2-clause-ready : goal.take_line-requires-2-clause-ready
take_line-requires-2-clause-ready g c =
    let r = c.requires in (
      r.0 + 1,
      with_line r.1 (script.Send c.args.from c.args.to),
      r.2,
      c.in_ok-take_line.ensures r.0 r.1 r.2 r.3,
      omega (arith, r.4),
    )

pub returns : goal.returns
returns g c lines slow before follows =
    let sent = with_line slow (script.Send c.args.from c.args.to) in
    let h : Follows (lines + 1) sent before c.take_line.new.self c.take_line.new.steps
    = c.in_ok-take_line.ensures lines slow before follows in
    let mail : c.mails-mail.result ≡ length sent.world.mail = c.mails-mail.ensures ∙ ap length h.world.mail in
    gets_as (lines + 1 + 1) (lines + 2) before c.take_line-2.new.steps
    (with_line sent (script.Deliver c.mails-mail.result)) (passed slow (c.args.from, c.args.to))
    c.take_line-2.new.self
    (omega arith) (ap (λ (m : ℕ). with_line sent (script.Deliver m)) mail) c.take_line-2.result
    (c.take_line-2.ensures (lines + 1) sent before h)
