use Rattle.std.proofs.Common.{◌≡◌, ap, ◌∙◌}
use Rattle.gd_member.proofs.Edits.{stands_live, stands_refused}
use Rattle.gd_member.proofs.Standing.{stands_more, turn_held}
use Rattle.gd_member.specs.Members.{MemberValue}
use Rattle.gd_member.specs.Turning.{is_memory}
use Rattle.gd_reference.specs.TakeBack.{after_turn}
use Rattle.gd_takeback.specs.declared.take_back.BackFault.TheVariants.{NoMemory}
use Rattle.gd_member.proofs.member.Member.turn_events.Goals as goal

pub invariant_of-self : goal.invariant_of-self
invariant_of-self g c live =
    let met = c.self.invariant (rw (← c.self.view_is) at c.requires) in
    let turned = c.in-Ok.ensures in (
      after_turn met.0 c.args.which,
      met.1,
      stands_more met.2 c.in-Ok.events (turn_held met.0 c.args.which c.in-Ok.events (turned.answer met.0 met.2.stands))
          live (turned.stands met.0 met.2.stands) (λ others are. turned.unwritten met.1 others are),
    )

pub returns-in-Ok-clause-answer : goal.returns-in-Ok-clause-answer
returns-in-Ok-clause-answer g c slow written st =
    let s = rw (← c.self.view_is) at st in
    c.in-Ok.ensures.answer slow s.stands

pub returns-in-Ok-clause-steps : goal.returns-in-Ok-clause-steps
returns-in-Ok-clause-steps g c slow written st =
    let s = rw (← c.self.view_is) at st in
    c.in-Ok.ensures.steps slow s.stands

pub returns-in-Ok-clause-stands : goal.returns-in-Ok-clause-stands
returns-in-Ok-clause-stands g c slow written st =
    let s = rw (← c.self.view_is) at st in
    let turned = c.in-Ok.ensures in
    stands_more s c.in-Ok.events (turn_held slow c.args.which c.in-Ok.events (turned.answer slow s.stands)) s.live
    (turned.stands slow s.stands) (λ others are. turned.unwritten written others are)

pub invariant_of-self-in-Err : goal.invariant_of-self-in-Err
invariant_of-self-in-Err g c live =
    let met = c.self.invariant (rw (← c.self.view_is) at c.requires) in
    let turned = c.in-Err.ensures in
    let left : MemberValue =
    record {
      site = c.turn_into.new.site;
      backs = c.turn_into.new.backs;
      unwritten = c.turn_into.new.unwritten;
      spent = c.is_memory-spent.result;
    } in (
      met.0,
      met.1,
      stands_live left met.2 c.in-Err.fault (turned.keeps met.0 met.2.stands) turned.stays
          c.is_memory-spent.ensures live,
    )

pub returns-in-Err : goal.returns-in-Err
returns-in-Err g c =
    let turned = c.in-Err.ensures in
    let left : MemberValue =
    record {
      site = c.turn_into.new.site;
      backs = c.turn_into.new.backs;
      unwritten = c.turn_into.new.unwritten;
      spent = c.is_memory-spent.result;
    } in
    rw (← c.self.view_is) (record {
      answer = λ slow written st. turned.answer slow st.stands;
      stands = λ slow written st. tt;
      keeps = λ slow written st.
          stands_refused left st c.in-Err.fault (turned.keeps slow st.stands) turned.stays c.is_memory-spent.ensures;
      spent = λ is. let same : c.in-Err.fault ≡ NoMemory = cc in c.is_memory-spent.ensures ∙ ap is_memory same;
      steps = λ slow written st. turned.steps slow st.stands;
    })
