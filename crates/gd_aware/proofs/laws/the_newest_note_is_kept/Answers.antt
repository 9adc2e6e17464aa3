use Rattle.gd_aware.proofs.Newest.{newest}
use Rattle.gd_aware.proofs.laws.the_newest_note_is_kept.Goals as goal

pub returns : goal.returns
returns c = newest
