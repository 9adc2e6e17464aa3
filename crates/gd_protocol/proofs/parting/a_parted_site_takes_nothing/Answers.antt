use Rattle.gd_protocol.proofs.PartedSites.{parted_keeps, parts_now, says_it, says_no_more}
use Rattle.gd_protocol.proofs.parting.a_parted_site_takes_nothing.Goals as goal

pub returns-clause-now : goal.returns-clause-now
returns-clause-now c = parts_now

pub returns-clause-said : goal.returns-clause-said
returns-clause-said c = says_it

pub returns-clause-once : goal.returns-clause-once
returns-clause-once c = says_no_more

pub returns-clause-later : goal.returns-clause-later
returns-clause-later c = parted_keeps
