use Rattle.std.proofs.Common.{Some, ap, refl, ◌∙◌, ◌++◌}
use Rattle.std.proofs.lemmas.Result.{err_from_is_err_and}
use Rattle.gd_answers.proofs.Heard.{parts, passes, refuses}
use Rattle.gd_grammar.specs.declared.frame.Head.{Head}
use Rattle.gd_lines.specs.Replies.{reply_text}
use Rattle.gd_lines.specs.declared.reply.Reply.TheVariants as reply
use Rattle.gd_answers.specs.Paying.{frame_works}
use Rattle.gd_member.proofs.Frames.{pays_all, said_found, said_none, said_one, sender_at, takes_found, takes_nothing}
use Rattle.gd_member.proofs.taking.take_into.Goals as goal

-- ---- one that was refused

pub returns-in_ok-say_refused-in-Refused-clause-sender : goal.returns-in_ok-say_refused-in-Refused-clause-sender
returns-in_ok-say_refused-in-Refused-clause-sender g c slow stands =
    sender_at slow c.args.frame.now (rw c.in-Refused.is at (c.in_ok-heard.ensures.heard slow stands))

pub returns-in_ok-say_refused-in-Refused-clause-unwritten : goal.returns-in_ok-say_refused-in-Refused-clause-unwritten
returns-in_ok-say_refused-in-Refused-clause-unwritten g c slow stands =
    let f = c.args.frame.now in
    takes_nothing slow f _
    (refuses slow f c.in-Refused.fault (rw c.in-Refused.is at (c.in_ok-heard.ensures.heard slow stands))) refl

pub returns-in_ok-say_refused-in-Refused-clause-said : goal.returns-in_ok-say_refused-in-Refused-clause-said
returns-in_ok-say_refused-in-Refused-clause-said g c slow stands =
    let f = c.args.frame.now in
    let fault = c.in-Refused.fault in
    said_one c.args.said.now _ (reply.NotTaken fault) _ c.in_ok-say_refused-in-Refused.ensures
    (refuses slow f fault (rw c.in-Refused.is at (c.in_ok-heard.ensures.heard slow stands))).replies

pub returns-in_err-say_refused-in-Refused-clause-err_steps : goal.returns-in_err-say_refused-in-Refused-clause-err_steps
returns-in_err-say_refused-in-Refused-clause-err_steps g c =
    let p =
    err_from_is_err_and c.from_residual-in_err-say_refused-in-Refused.result
    c.from_residual-in_err-say_refused-in-Refused.ensures.1 in
    rw p.1 (λ slow stands. pays_all (frame_works slow c.args.frame.now) (c.in_ok-heard.ensures.steps slow stands))

-- ---- one that shows a parting

pub returns-in_ok-say_parted-in-Parted-clause-sender : goal.returns-in_ok-say_parted-in-Parted-clause-sender
returns-in_ok-say_parted-in-Parted-clause-sender g c slow stands =
    sender_at slow c.args.frame.now (rw c.in-Parted.is at (c.in_ok-heard.ensures.heard slow stands))

pub returns-in_ok-say_parted-in-Parted-clause-unwritten : goal.returns-in_ok-say_parted-in-Parted-clause-unwritten
returns-in_ok-say_parted-in-Parted-clause-unwritten g c slow stands =
    let f = c.args.frame.now in
    takes_nothing slow f _
    (parts slow f c.in-Parted.count (rw c.in-Parted.is at (c.in_ok-heard.ensures.heard slow stands))) refl

pub returns-in_ok-say_parted-in-Parted-clause-said : goal.returns-in_ok-say_parted-in-Parted-clause-said
returns-in_ok-say_parted-in-Parted-clause-said g c slow stands =
    let f = c.args.frame.now in
    let count = c.in-Parted.count in
    let from = ap (λ (h : Head). h.from) c.head-from.ensures.head in
    said_one c.args.said.now _ (reply.Parted f.head.from count) _
    (c.in_ok-say_parted-in-Parted.ensures ∙ ap (λ s. c.args.said.now ++ reply_text (reply.Parted s count)) from)
    (parts slow f count (rw c.in-Parted.is at (c.in_ok-heard.ensures.heard slow stands))).replies

pub returns-in_err-say_parted-in-Parted-clause-err_steps : goal.returns-in_err-say_parted-in-Parted-clause-err_steps
returns-in_err-say_parted-in-Parted-clause-err_steps g c =
    let p =
    err_from_is_err_and c.from_residual-in_err-say_parted-in-Parted.result
    c.from_residual-in_err-say_parted-in-Parted.ensures.1 in
    rw p.1 (λ slow stands. pays_all (frame_works slow c.args.frame.now) (c.in_ok-heard.ensures.steps slow stands))

-- ---- one of a site that had parted before

pub returns-in-Passed-clause-sender : goal.returns-in-Passed-clause-sender
returns-in-Passed-clause-sender g c slow stands =
    sender_at slow c.args.frame.now (rw c.in-Passed.is at (c.in_ok-heard.ensures.heard slow stands))

pub returns-in-Passed-clause-unwritten : goal.returns-in-Passed-clause-unwritten
returns-in-Passed-clause-unwritten g c slow stands =
    let f = c.args.frame.now in
    takes_nothing slow f _ (passes slow f (rw c.in-Passed.is at (c.in_ok-heard.ensures.heard slow stands))) refl

pub returns-in-Passed-clause-said : goal.returns-in-Passed-clause-said
returns-in-Passed-clause-said g c slow stands =
    let f = c.args.frame.now in
    said_none c.args.said.now _ (passes slow f (rw c.in-Passed.is at (c.in_ok-heard.ensures.heard slow stands))).replies

-- ---- one that is taken

pub returns-in_ok-hear_all-in-Taken-clause-sender : goal.returns-in_ok-hear_all-in-Taken-clause-sender
returns-in_ok-hear_all-in-Taken-clause-sender g c slow stands =
    let is = rw c.in-Taken.is at (c.in_ok-heard.ensures.heard slow stands) in
    ap (λ (h : Head). Some h.from) c.head-from.ensures.head ∙ sender_at slow c.args.frame.now is.0

pub returns-in_ok-hear_all-in-Taken-clause-unwritten : goal.returns-in_ok-hear_all-in-Taken-clause-unwritten
returns-in_ok-hear_all-in-Taken-clause-unwritten g c slow stands =
    let is = rw c.in-Taken.is at (c.in_ok-heard.ensures.heard slow stands) in
    takes_found slow c.args.frame.now c.in-Taken.heard.items is.0 is.1 c.events.ensures.events c.as_slice.ensures.value
    c.in_ok-hear_all-in-Taken.ensures.unwritten

pub returns-in_ok-hear_all-in-Taken-clause-said : goal.returns-in_ok-hear_all-in-Taken-clause-said
returns-in_ok-hear_all-in-Taken-clause-said g c slow stands =
    let is = rw c.in-Taken.is at (c.in_ok-heard.ensures.heard slow stands) in
    said_found slow c.args.frame.now c.in-Taken.heard.items is.0 is.1 c.events.ensures.events c.as_slice.ensures.value
    c.args.said.now _ c.in_ok-hear_all-in-Taken.ensures.said

pub returns-in_err-hear_all-in-Taken-clause-err_steps : goal.returns-in_err-hear_all-in-Taken-clause-err_steps
returns-in_err-hear_all-in-Taken-clause-err_steps g c =
    let p =
    err_from_is_err_and c.from_residual-in_err-hear_all-in-Taken.result
    c.from_residual-in_err-hear_all-in-Taken.ensures.1 in
    rw p.1 (λ slow stands. pays_all (frame_works slow c.args.frame.now) (c.in_ok-heard.ensures.steps slow stands))
