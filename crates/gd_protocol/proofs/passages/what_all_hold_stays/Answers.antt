use Rattle.gd_protocol.proofs.HeldByAll.{all_counted, counted_all, held_agree, held_passed, kept_passed}
use Rattle.gd_protocol.proofs.passages.what_all_hold_stays.Goals as goal

pub returns-clause-kept : goal.returns-clause-kept
returns-clause-kept c w ps kept = kept_passed w kept ps

pub returns-clause-counted : goal.returns-clause-counted
returns-clause-counted c w kept = (counted_all w kept, all_counted w kept)

pub returns-clause-agreed : goal.returns-clause-agreed
returns-clause-agreed c = held_agree

pub returns-clause-held : goal.returns-clause-held
returns-clause-held c w ps kept all = held_passed w kept all ps
