use Rattle.std.proofs.Common.{Bool, [], ◌∷◌, ap}
use Rattle.gd_outside.specs.declared.end.End.TheVariants.{NoMemory}
use Rattle.gd_effects.specs.Effects.{Print}
use Rattle.gd_effects.proofs.Doing.{does_as, does_exit, does_more, does_then}
use Rattle.gd_lines.specs.Text.{bad_log_line}
use Rattle.gd_reference.specs.UptoFault.{shown_where}
use Rattle.gd_log.proofs.UptoLemmas.{refused_at}
use Rattle.gd_log.proofs.replaying.show_upto.Goals as goal

pub returns-then-not-upto_fault-clause-does : goal.returns-then-not-upto_fault-clause-does
returns-then-not-upto_fault-clause-does g c = λ input journal link.
    does_as (ap (λ (upto : Bool).
    refused_at upto c.args.format c.args.counts c.args.events c.args.fault.at c.args.fault.why)
    c.if-not-upto_fault.true)
    (c.refuse.ensures.does input journal link c.args.steps.now)

pub returns-then-not-upto_fault-clause-silent : goal.returns-then-not-upto_fault-clause-silent
returns-then-not-upto_fault-clause-silent g c = λ e. absurd (let k = c.refuse.ensures.end NoMemory e in cc)

pub returns-in_err-show-clause-does : goal.returns-in_err-show-clause-does
returns-in_err-show-clause-does g c = λ input journal link.
    does_exit c.from_residual.result c.from_residual.ensures.1
    (does_more (Print (bad_log_line c.args.fault.at c.args.fault.why) ∷ [])
    (does_as (ap (λ (upto : Bool). shown_where upto c.args.format c.args.counts c.args.events)
    c.if-not-upto_fault.false) (c.in_err-show.ensures.does input journal link)))

pub returns-clause-does : goal.returns-clause-does
returns-clause-does g c = λ input journal link.
    does_then
    (does_as (ap (λ (upto : Bool). shown_where upto c.args.format c.args.counts c.args.events)
    c.if-not-upto_fault.false) (c.in_ok-show.ensures.does input journal link))
    (c.refuse-2.ensures.does input journal link c.show.new.steps)

pub returns-clause-silent : goal.returns-clause-silent
returns-clause-silent g c = λ e. absurd (let k = c.refuse-2.ensures.end NoMemory e in cc)
