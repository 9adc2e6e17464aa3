use Rattle.std.proofs.Common.{◌≡◌, ◌+◌, ◌++◌, subst, sym}
use Rattle.std.specs.List.{flat_map}
use Rattle.std.specs.Prelude.{Err, IfOk, Ok, OnErr, OnOk}
use Rattle.gd_answers.specs.Paying.{PaysFront}
use Rattle.gd_effects.specs.Effects.{cost}
use Rattle.gd_lines.specs.Replies.{reply_text}
use Rattle.gd_member.proofs.Frames.{idle, idle_err, long_worked, pays_none, read_said, read_sender, read_worked}
use Rattle.gd_member.proofs.member.Member.take.Goals as goal

-- ---- one that is too long

pub returns-then-is_too_long-clause-steps : goal.returns-then-is_too_long-clause-steps
returns-then-is_too_long-clause-steps g c slow written st =
    idle c.say_alone.result c.args.steps.now (long_worked slow c.args.datagram.now (sym c.if-is_too_long.ensures))

pub returns-then-is_too_long-clause-err_steps : goal.returns-then-is_too_long-clause-err_steps
returns-then-is_too_long-clause-err_steps g c slow written st =
    idle_err c.say_alone.result c.args.steps.now (long_worked slow c.args.datagram.now (sym c.if-is_too_long.ensures))

-- ---- a frame

pub returns-in-Ok-clause-sender : goal.returns-in-Ok-clause-sender
returns-in-Ok-clause-sender g c slow written st =
    subst (λ who. IfOk c.take_read.result (λ from. from ≡ who))
    (sym (read_sender slow c.args.datagram.now (sym c.if-is_too_long.ensures) (Ok c.in-Ok.frame) c.in-Ok.ensures.read))
    (c.take_read.ensures.sender slow written st)

pub returns-in-Ok-clause-said : goal.returns-in-Ok-clause-said
returns-in-Ok-clause-said g c slow written st =
    subst (λ replies. OnOk c.take_read.result (c.take_read.new.said ≡ c.args.said.now ++ flat_map reply_text replies))
    (sym (read_said slow c.args.datagram.now (sym c.if-is_too_long.ensures) (Ok c.in-Ok.frame) c.in-Ok.ensures.read))
    (c.take_read.ensures.said slow written st)

pub returns-in-Ok-clause-steps : goal.returns-in-Ok-clause-steps
returns-in-Ok-clause-steps g c slow written st =
    subst (λ xs. OnOk c.take_read.result (c.take_read.new.steps ≡ c.args.steps.now + cost xs))
    (sym (read_worked slow c.args.datagram.now (sym c.if-is_too_long.ensures) (Ok c.in-Ok.frame) c.in-Ok.ensures.read))
    (c.take_read.ensures.steps slow written st)

pub returns-in-Ok-clause-err_steps : goal.returns-in-Ok-clause-err_steps
returns-in-Ok-clause-err_steps g c slow written st =
    subst (λ xs. OnErr c.take_read.result (PaysFront c.args.steps.now xs c.take_read.new.steps))
    (sym (read_worked slow c.args.datagram.now (sym c.if-is_too_long.ensures) (Ok c.in-Ok.frame) c.in-Ok.ensures.read))
    (c.take_read.ensures.err_steps slow written st)

-- ---- none

pub returns-in-Err-Memory-clause-err_steps : goal.returns-in-Err-Memory-clause-err_steps
returns-in-Err-Memory-clause-err_steps g c slow written st = pays_none c.args.steps.now _

pub returns-in-Err-Fault-clause-steps : goal.returns-in-Err-Fault-clause-steps
returns-in-Err-Fault-clause-steps g c slow written st =
    let is = rw c.in-Err-Fault.field-0-is at c.in-Err-Fault.ensures.read in
    idle c.say_alone-in-Err-Fault.result c.args.steps.now
    (read_worked slow c.args.datagram.now (sym c.if-is_too_long.ensures) (Err is.0) is.1)

pub returns-in-Err-Fault-clause-err_steps : goal.returns-in-Err-Fault-clause-err_steps
returns-in-Err-Fault-clause-err_steps g c slow written st =
    let is = rw c.in-Err-Fault.field-0-is at c.in-Err-Fault.ensures.read in
    idle_err c.say_alone-in-Err-Fault.result c.args.steps.now
    (read_worked slow c.args.datagram.now (sym c.if-is_too_long.ensures) (Err is.0) is.1)
