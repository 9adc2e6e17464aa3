use Rattle.std.proofs.Common.{◌∙◌, ap}
use Rattle.std.specs.Prelude.{Err}
use Rattle.gd_world.proofs.Scripts.{answers_no_mail, answers_no_memory, answers_no_site}
use Rattle.gd_world.specs.declared.fault.WorldFault.{WorldFault}
use Rattle.gd_world.proofs.world.World.answer_line.Goals as goal

pub returns-in-Err-NoSite : goal.returns-in-Err-NoSite
returns-in-Err-NoSite g c w stands =
    answers_no_site w c.args.line.now c.args.self.now c.go.new.self c.args.steps.now c.go.new.steps _
    (c.go.ensures w stands) stands _ c.only.ensures.err
    (c.in-Err-NoSite.is ∙ ap (λ (e : WorldFault). Err e) c.in-Err-NoSite.field-0-is) c.only.ensures.ok

pub returns-in-Err-NoMail : goal.returns-in-Err-NoMail
returns-in-Err-NoMail g c w stands =
    answers_no_mail w c.args.line.now c.args.self.now c.go.new.self c.args.steps.now c.go.new.steps _
    (c.go.ensures w stands) stands _ c.only-in-Err-NoMail.ensures.err
    (c.in-Err-NoMail.is ∙ ap (λ (e : WorldFault). Err e) c.in-Err-NoMail.field-0-is) c.only-in-Err-NoMail.ensures.ok

pub returns-in-Err-NoMemory : goal.returns-in-Err-NoMemory
returns-in-Err-NoMemory g c w stands =
    answers_no_memory w c.args.line.now c.args.self.now c.go.new.self c.args.steps.now c.go.new.steps _
    (c.go.ensures w stands) (c.in-Err-NoMemory.is ∙ ap (λ (e : WorldFault). Err e) c.in-Err-NoMemory.field-0-is)
