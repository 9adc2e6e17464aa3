use Rattle.gd_protocol.proofs.PartedSites.{stays_at_frames, stays_at_gestures, stays_at_lines}
use Rattle.gd_protocol.proofs.parting.parted_sites_stay_parted.Goals as goal

pub returns-clause-frame : goal.returns-clause-frame
returns-clause-frame c = stays_at_frames

pub returns-clause-line : goal.returns-clause-line
returns-clause-line c = stays_at_lines

pub returns-clause-gesture : goal.returns-clause-gesture
returns-clause-gesture c = stays_at_gestures
