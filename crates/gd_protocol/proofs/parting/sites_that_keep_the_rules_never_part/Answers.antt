use Rattle.gd_protocol.proofs.Frames.{never_shown, taken_frame}
use Rattle.gd_protocol.proofs.parting.sites_that_keep_the_rules_never_part.Goals as goal

pub returns-clause-shown : goal.returns-clause-shown
returns-clause-shown c = never_shown

pub returns-clause-taken : goal.returns-clause-taken
returns-clause-taken c = taken_frame
