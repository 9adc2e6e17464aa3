use Rattle.gd_viewing.proofs.Arriving.{begun-shown}
use Rattle.gd_viewing.proofs.Known.{begun-count, begun-line, begun-session, begun-sites, begun-sure}
use Rattle.gd_viewing.proofs.laws.a_viewer_of_a_snapshot_shows_the_site.Goals as goal

pub returns-clause-drawing : goal.returns-clause-drawing
returns-clause-drawing c = begun-shown

pub returns-clause-line : goal.returns-clause-line
returns-clause-line c = begun-line

pub returns-clause-counts : goal.returns-clause-counts
returns-clause-counts c = begun-count

pub returns-clause-sures : goal.returns-clause-sures
returns-clause-sures c = begun-sure

pub returns-clause-session : goal.returns-clause-session
returns-clause-session c = begun-session

pub returns-clause-sites : goal.returns-clause-sites
returns-clause-sites c = begun-sites
