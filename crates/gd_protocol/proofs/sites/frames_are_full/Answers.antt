use Rattle.gd_protocol.proofs.SiteFrames.{front_sent, longest_sent, one_sent, two_sent}
use Rattle.gd_protocol.proofs.sites.frames_are_full.Goals as goal

pub returns-clause-front : goal.returns-clause-front
returns-clause-front c = front_sent

pub returns-clause-longest : goal.returns-clause-longest
returns-clause-longest c = longest_sent

pub returns-clause-one : goal.returns-clause-one
returns-clause-one c = one_sent

pub returns-clause-two : goal.returns-clause-two
returns-clause-two c = two_sent
