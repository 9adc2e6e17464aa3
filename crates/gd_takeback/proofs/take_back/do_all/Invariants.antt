use Rattle.std.proofs.Common.{vec_len}
use Rattle.gd_reference.specs.SlowSite.{SlowSite}
use Rattle.gd_site.specs.Sites.{StandsFor}
use Rattle.gd_takeback.proofs.Doing.{Doing}
use Rattle.gd_takeback.specs.Making.{MayBecome, making}
use Rattle.gd_takeback.specs.Seen.{newest_first}
use Rattle.gd_takeback.proofs.take_back.do_all.Given as goal

abbrev pub invariant-left : goal.invariant-left
invariant-left g l =
    (slow : SlowSite) → StandsFor slow l.initial.site → MayBecome slow (newest_first l.fn.back)
    → Doing slow (newest_first l.fn.back) (newest_first l.left) l.initial.steps l.steps (making l.site l.gesture)

abbrev pub decreases-left : goal.decreases-left
decreases-left g l = vec_len l.left
