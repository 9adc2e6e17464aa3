use Rattle.std.proofs.Common.{[], ◌∷◌, sym, ◌∙◌, ap}
use Rattle.std.specs.Prelude.{Ok, Err}
use Rattle.gd_effects.proofs.Doing.{does_as}
use Rattle.gd_lines.specs.declared.reply.Reply.TheVariants as reply
use Rattle.gd_reference.specs.Said.{says}
use Rattle.gd_world.proofs.LineWork.{carries_answer, carries_cut, carries_fault, carries_read, is_script}
use Rattle.gd_world.proofs.rehearsing.WorldAnswerer.answer.Goals as goal

pub answer_line-requires : goal.answer_line-requires
answer_line-requires g c
    = is_script c.in-Ok.line
    (c.what_is_read_is_in_range.ensures.script c.requires.read.bytes c.in-Ok.line (sym c.requires.read.is ∙ c.in-Ok.is))

pub returns-in_default : goal.returns-in_default
returns-in_default g c
    = carries_read c.args.line (Ok c.in-Ok.line) c.in-Ok.is
    (carries_cut c.in-Ok.line _ _ c.in_default.field-0 c.in_default.ensures)

pub returns-in-Ok-answer_line : goal.returns-in-Ok-answer_line
returns-in-Ok-answer_line g c =
    carries_read c.args.line (Ok c.in-Ok.line) c.in-Ok.is
    (carries_answer c.in-Ok.line _ _ c.say_all.result c.in-Ok-answer_line.ensures c.say_all.ensures)

pub returns-in-Err : goal.returns-in-Err
returns-in-Err g c =
    carries_read c.args.line (Err c.in-Err.fault) c.in-Err.is
    (carries_fault c.in-Err.fault c.say.result _ _ _ _
    (λ input journal link steps. does_as (ap (λ why. says (reply.Refused why) ∷ []) (sym c.line_refusal-why.ensures))
    (c.say.ensures input journal link steps)))
