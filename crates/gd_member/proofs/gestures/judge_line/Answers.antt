use Rattle.std.proofs.Common.{◌++◌, refl, sym, ◌∙◌}
use Rattle.gd_lines.specs.Replies.{reply_text}
use Rattle.gd_member.proofs.Judgings.{asks_in_range, judged_paid, judged_short, line_cut, line_judged}
use Rattle.gd_member.specs.Gestures.{with_line}
use Rattle.gd_takeback.specs.Making.{making}
use Rattle.gd_member.proofs.gestures.judge_line.Goals as goal

pub make-requires : goal.make-requires
make-requires g c =
    asks_in_range c.args.count c.args.line c.in-Some.asked c.requires.read (sym c.next_asked.ensures ∙ c.in-Some.is)

pub returns-in_err-reply-clause-judged : goal.returns-in_err-reply-clause-judged
returns-in_err-reply-clause-judged g c slow asked told before s =
    judged_short slow (with_line asked c.args.line) c.from_residual.result c.from_residual.ensures.0 _ told _ before _
    (line_cut slow asked c.args.count told c.args.said.now before c.args.steps.now c.args.line _ _ s
    c.in_err-reply.ensures.err_steps)

pub returns-in_err-add-clause-judged : goal.returns-in_err-add-clause-judged
returns-in_err-add-clause-judged g c slow asked told before s =
    let is = sym c.next_asked.ensures ∙ c.in-Some.is in
    judged_short slow (with_line asked c.args.line) c.from_residual-in_err-add.result
    c.from_residual-in_err-add.ensures.0 _ told _ before _
    (judged_paid
    (line_judged slow asked c.args.count told c.args.said.now before c.args.steps.now c.args.line c.in-Some.asked is
    (asks_in_range c.args.count c.args.line c.in-Some.asked c.requires.read is) c.in_ok-reply.reply
    (making c.args.site.now c.args.gesture.now)
    (making c.make.new.site c.make.new.gesture) (c.args.said.now ++ reply_text c.in_ok-reply.reply) c.make.new.steps s
    c.in_ok-reply.ensures.judged refl))

pub returns-clause-judged : goal.returns-clause-judged
returns-clause-judged g c slow asked told before s =
    let is = sym c.next_asked.ensures ∙ c.in-Some.is in
    line_judged slow asked c.args.count told c.args.said.now before c.args.steps.now c.args.line c.in-Some.asked is
    (asks_in_range c.args.count c.args.line c.in-Some.asked c.requires.read is) c.in_ok-reply.reply
    (making c.args.site.now c.args.gesture.now)
    (making c.make.new.site c.make.new.gesture) c.add.new.self c.make.new.steps s c.in_ok-reply.ensures.judged
    c.in_ok-add.ensures
