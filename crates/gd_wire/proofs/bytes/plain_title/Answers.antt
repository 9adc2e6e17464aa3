use Rattle.gd_wire.proofs.Plain.{title_plain, title_none}
use Rattle.gd_wire.proofs.bytes.plain_title.Goals as goal

pub returns-in-Ok-clause-plain : goal.returns-in-Ok-clause-plain
returns-in-Ok-clause-plain c
    = title_plain c.new.result c.in-Ok.text.now c.args.text.now c.in-Ok.ensures.cases.0 c.new.ensures.title

pub returns-in-Ok-clause-none : goal.returns-in-Ok-clause-none
returns-in-Ok-clause-none c =
    title_none c.new.result c.in-Ok.text.now c.args.text.now c.requires c.in-Ok.ensures.cases.0 c.new.ensures.title
