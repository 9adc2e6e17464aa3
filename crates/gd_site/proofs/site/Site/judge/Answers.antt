use Rattle.std.proofs.Common.{◌∙◌, sym}
use Rattle.gd_site.proofs.Finishing.{checked_none}
use Rattle.gd_site.proofs.Parting.{stored_accepted, stored_refused, verdict_is}
use Rattle.gd_site.proofs.site.Site.judge.Goals as goal

pub judge_accepted-requires : goal.judge_accepted-requires
judge_accepted-requires c = checked_none _ c.in_default.field-0 (sym c.in_default.ensures.checked)

pub returns-clause-stored : goal.returns-clause-stored
returns-clause-stored c =
    stored_accepted c.args.self.now c.args.frame.now c.in_default.field-0 c.in_default.ensures.checked _
    c.judge_accepted.ensures

pub returns-clause-slow : goal.returns-clause-slow
returns-clause-slow c = λ slow stands.
    stored_accepted c.args.self.now c.args.frame.now c.in_default.field-0 c.in_default.ensures.checked _
    c.judge_accepted.ensures
    ∙ verdict_is slow c.args.self.now stands c.args.frame.now c.in_default.ensures.frame

pub returns-in-Err-clause-stored : goal.returns-in-Err-clause-stored
returns-in-Err-clause-stored c = stored_refused c.args.self.now c.args.frame.now c.in-Err.fault c.in-Err.ensures.checked

pub returns-in-Err-clause-slow : goal.returns-in-Err-clause-slow
returns-in-Err-clause-slow c = λ slow stands.
    stored_refused c.args.self.now c.args.frame.now c.in-Err.fault c.in-Err.ensures.checked
    ∙ verdict_is slow c.args.self.now stands c.args.frame.now c.in-Err.ensures.frame
