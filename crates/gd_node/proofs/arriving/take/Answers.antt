use Rattle.std.proofs.Common.{ℕ, [], ◌∷◌, ◌++◌, refl, sym, ◌∙◌, None, Some, ap}
use Rattle.std.specs.List.{flat_map}
use Rattle.gd_answers.specs.Arriving.{replies_of}
use Rattle.std.specs.Prelude.{Ok}
use Rattle.gd_dialogue.proofs.Carrying.{carries_exit, carries_ok}
use Rattle.gd_effects.proofs.Doing.{does_as, does_nothing}
use Rattle.gd_grammar.specs.declared.frame.Head.{Head}
use Rattle.gd_lines.specs.Replies.{reply_text}
use Rattle.gd_lines.specs.declared.reply.Reply.TheVariants as reply
use Rattle.gd_node.proofs.Frames.{carries_left, carries_short, carries_taken, parted_left, passed_left, pays_all}
use Rattle.gd_node.proofs.Frames.{refused_left, sender_at}
use Rattle.gd_reference.specs.Said.{says}
use Rattle.gd_site.proofs.Counts.{held_few}
use Rattle.gd_node.proofs.arriving.take.Goals as goal

pub take_frame-requires : goal.take_frame-requires
take_frame-requires g c = let m = c.requires in (m.0, m.1.stands.site)

pub returns-in_err-heard-clause-carries : goal.returns-in_err-heard-clause-carries
returns-in_err-heard-clause-carries g c link =
    carries_exit _ c.from_residual.ensures.1
    (carries_short c.args.frame.now _ _ link (λ slow m. c.in_err-heard.ensures.err_steps slow m.stands.site))

-- ---- one that was refused

pub returns-in_err-say_not_taken-in-Refused-clause-carries : goal.returns-in_err-say_not_taken-in-Refused-clause-carries
returns-in_err-say_not_taken-in-Refused-clause-carries g c link =
    let f = c.args.frame.now in
    let fault = c.in-Refused.fault in
    let took = c.in_ok-heard.ensures in
    carries_exit _ c.from_residual-in_err-say_not_taken-in-Refused.ensures.1
    (carries_left f (reply.NotTaken fault ∷ []) _ _ link
    (λ slow m. refused_left slow f (took.stands slow m.stands.site) (took.steps slow m.stands.site) fault
    (rw c.in-Refused.is at (took.heard slow m.stands.site))) refl refl c.in_err-say_not_taken-in-Refused.ensures)

pub returns-in_ok-say_not_taken-in-Refused-clause-carries : goal.returns-in_ok-say_not_taken-in-Refused-clause-carries
returns-in_ok-say_not_taken-in-Refused-clause-carries g c link =
    let f = c.args.frame.now in
    let fault = c.in-Refused.fault in
    let took = c.in_ok-heard.ensures in
    carries_ok None
    (carries_left f (reply.NotTaken fault ∷ []) _ _ link
    (λ slow m. refused_left slow f (took.stands slow m.stands.site) (took.steps slow m.stands.site) fault
    (rw c.in-Refused.is at (took.heard slow m.stands.site))) refl refl c.in_ok-say_not_taken-in-Refused.ensures)

pub returns-in_ok-say_not_taken-in-Refused-clause-sender : goal.returns-in_ok-say_not_taken-in-Refused-clause-sender
returns-in_ok-say_not_taken-in-Refused-clause-sender g c slow stands =
    sender_at slow c.args.frame.now (rw c.in-Refused.is at (c.in_ok-heard.ensures.heard slow stands))

-- ---- one that shows a parting

pub returns-in_err-say_parted-in-Parted-clause-carries : goal.returns-in_err-say_parted-in-Parted-clause-carries
returns-in_err-say_parted-in-Parted-clause-carries g c link =
    let f = c.args.frame.now in
    let count = c.in-Parted.count in
    let took = c.in_ok-heard.ensures in
    let from = ap (λ (h : Head). h.from) c.head-from.ensures.head in
    carries_exit _ c.from_residual-in_err-say_parted-in-Parted.ensures.1
    (carries_left f (reply.Parted f.head.from count ∷ []) _ _ link
    (λ slow m. parted_left slow f (took.stands slow m.stands.site) (took.steps slow m.stands.site) count
    (rw c.in-Parted.is at (took.heard slow m.stands.site))) refl refl
    (λ input journal link steps.
    does_as (ap (λ (s : ℕ). says (reply.Parted s count) ∷ []) (sym from))
    (c.in_err-say_parted-in-Parted.ensures input journal link steps)))

pub returns-in_ok-say_parted-in-Parted-clause-carries : goal.returns-in_ok-say_parted-in-Parted-clause-carries
returns-in_ok-say_parted-in-Parted-clause-carries g c link =
    let f = c.args.frame.now in
    let count = c.in-Parted.count in
    let took = c.in_ok-heard.ensures in
    let from = ap (λ (h : Head). h.from) c.head-from.ensures.head in
    carries_ok None
    (carries_left f (reply.Parted f.head.from count ∷ []) _ _ link
    (λ slow m. parted_left slow f (took.stands slow m.stands.site) (took.steps slow m.stands.site) count
    (rw c.in-Parted.is at (took.heard slow m.stands.site))) refl refl
    (λ input journal link steps.
    does_as (ap (λ (s : ℕ). says (reply.Parted s count) ∷ []) (sym from))
    (c.in_ok-say_parted-in-Parted.ensures input journal link steps)))

pub returns-in_ok-say_parted-in-Parted-clause-sender : goal.returns-in_ok-say_parted-in-Parted-clause-sender
returns-in_ok-say_parted-in-Parted-clause-sender g c slow stands =
    sender_at slow c.args.frame.now (rw c.in-Parted.is at (c.in_ok-heard.ensures.heard slow stands))

-- ---- one of a site that had parted before

pub returns-in-Passed-clause-carries : goal.returns-in-Passed-clause-carries
returns-in-Passed-clause-carries g c link =
    let f = c.args.frame.now in
    let took = c.in_ok-heard.ensures in
    carries_ok {v = tt {0}} None
    (carries_left f [] (Ok (tt {0})) _ link
    (λ slow m. passed_left slow f (took.stands slow m.stands.site) (took.steps slow m.stands.site)
    (rw c.in-Passed.is at (took.heard slow m.stands.site))) refl refl
    (λ input journal link steps. does_nothing _))

pub returns-in-Passed-clause-sender : goal.returns-in-Passed-clause-sender
returns-in-Passed-clause-sender g c slow stands =
    sender_at slow c.args.frame.now (rw c.in-Passed.is at (c.in_ok-heard.ensures.heard slow stands))

-- ---- one that is taken

pub returns-in_err-hear_all-in-Taken-clause-carries : goal.returns-in_err-hear_all-in-Taken-clause-carries
returns-in_err-hear_all-in-Taken-clause-carries g c link =
    let f = c.args.frame.now in
    carries_exit _ c.from_residual-in_err-hear_all-in-Taken.ensures.1
    (carries_short f _ _ link (λ slow m. pays_all slow f (c.in_ok-heard.ensures.steps slow m.stands.site)))

pub record_all_and_say-requires : goal.record_all_and_say-requires
record_all_and_say-requires g c = let m = c.requires in (m.0, held_few m.0 m.1.stands.site.well, m.1.log)

pub returns-in_err-record_all_and_say-in-Taken-clause-carries
    : goal.returns-in_err-record_all_and_say-in-Taken-clause-carries
returns-in_err-record_all_and_say-in-Taken-clause-carries g c link =
    let took = c.in_ok-heard.ensures in
    let heard = c.in_ok-hear_all-in-Taken.ensures in
    let put = c.in_err-record_all_and_say-in-Taken.ensures in
    carries_exit _ c.from_residual-in_err-record_all_and_say-in-Taken.ensures.1
    (carries_taken c.args.frame.now c.in-Taken.heard.items _ link c.events.ensures.events c.as_slice.ensures.value
    (λ slow m.
    let is = rw c.in-Taken.is at (took.heard slow m.stands.site) in
    let site = m.stands.site in
    record { judged = is.0; heard_is = is.1; stands = took.stands slow site; paid = took.steps slow site }) refl
    (λ slow m. heard.records slow.held [] (c.new-records.ensures.none slow.held m.log.chained))
    (heard.said
    ∙ (λ i. c.new-said.ensures i ++ flat_map reply_text (replies_of c.events.result.now c.as_slice.result.now)))
    put.does put.log put.name)

pub returns-in_ok-record_all_and_say-in-Taken-clause-carries
    : goal.returns-in_ok-record_all_and_say-in-Taken-clause-carries
returns-in_ok-record_all_and_say-in-Taken-clause-carries g c link =
    let took = c.in_ok-heard.ensures in
    let heard = c.in_ok-hear_all-in-Taken.ensures in
    let put = c.in_ok-record_all_and_say-in-Taken.ensures in
    carries_ok (Some c.head-from.result.from)
    (carries_taken c.args.frame.now c.in-Taken.heard.items _ link c.events.ensures.events c.as_slice.ensures.value
    (λ slow m.
    let is = rw c.in-Taken.is at (took.heard slow m.stands.site) in
    let site = m.stands.site in
    record { judged = is.0; heard_is = is.1; stands = took.stands slow site; paid = took.steps slow site }) refl
    (λ slow m. heard.records slow.held [] (c.new-records.ensures.none slow.held m.log.chained))
    (heard.said
    ∙ (λ i. c.new-said.ensures i ++ flat_map reply_text (replies_of c.events.result.now c.as_slice.result.now)))
    put.does put.log put.name)

pub returns-in_ok-record_all_and_say-in-Taken-clause-sender
    : goal.returns-in_ok-record_all_and_say-in-Taken-clause-sender
returns-in_ok-record_all_and_say-in-Taken-clause-sender g c slow stands =
    let is = rw c.in-Taken.is at (c.in_ok-heard.ensures.heard slow stands) in
    ap (λ (h : Head). Some h.from) c.head-from.ensures.head ∙ sender_at slow c.args.frame.now is.0
