use Rattle.gd_takeback.proofs.Deciding.{decided_is_own}
use Rattle.gd_takeback.proofs.gesture.Gesture.edit.Goals as goal

pub make-requires : goal.make-requires
make-requires g c =
    decided_is_own c.args.site.now c.args.edit.now c.in_ok-event.event c.in_ok-event.ensures.decided
