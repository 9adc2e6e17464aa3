use Rattle.std.proofs.Common.{sym, subst, ◌∙◌}
use Rattle.std.specs.Prelude.{Ok, Err}
use Rattle.gd_dialogue.proofs.Carrying.{carries_exit, carries_ok}
use Rattle.gd_node.proofs.States.{carries_state, read_ranged}
use Rattle.gd_node.specs.Conversing.{AreAskedOf}
use Rattle.gd_node.proofs.answering.ConversationAnswerer.answer.Goals as goal

pub answer_line-requires : goal.answer_line-requires
answer_line-requires g c =
    let m = c.requires.met in
    let read = c.requires.read in
    record {
      met = (m.0.site, m.1.member);
      ranged = subst AreAskedOf (sym (c.take-waiting.ensures.value ∙ m.1.waiting)) m.1.ranged;
      read = read_ranged read.bytes (c.what_is_read_is_in_range.ensures.line read.bytes) c.args.line read.is;
    }

pub returns-in_err-self : goal.returns-in_err-self
returns-in_err-self g c =
    let read = c.requires.read in
    let ranged = read_ranged read.bytes (c.what_is_read_is_in_range.ensures.line read.bytes) c.args.line read.is in
    carries_exit _ c.from_residual.ensures.1
    (carries_state (Err c.in_err-self.field-0.0) c.args.line ranged _ _ c.take-waiting.result
    c.take-waiting.ensures.value c.in_err-self.ensures.carries tt)

pub returns : goal.returns
returns g c =
    let read = c.requires.read in
    let ranged = read_ranged read.bytes (c.what_is_read_is_in_range.ensures.line read.bytes) c.args.line read.is in
    carries_ok tt
    (carries_state (Ok c.in_ok-self.field-0) c.args.line ranged _ _ c.take-waiting.result c.take-waiting.ensures.value
    c.in_ok-self.ensures.carries c.in_ok-self.ensures.waits)
