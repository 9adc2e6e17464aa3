-- Several gestures of a site, and then undos and redos, in any order.
use Rattle.std.specs.Prelude.{ℕ, zero, suc, Bool, true, false, List, [], ◌∷◌, Option, None, Some, is_ok, if◌then◌else◌}
use Rattle.gd_base.specs.declared.refusal.EditRefusal.TheVariants.{ClockEnd, SessionFull}
use Rattle.gd_events.specs.Events.{Event}
use Rattle.gd_lines.specs.declared.command.Turn.{Turn}
use Rattle.gd_lines.specs.declared.command.Turn.TheVariants.{Undo, Redo}
use Rattle.gd_reference.specs.SlowSite.{SlowSite}
use Rattle.gd_reference.specs.TakeBack.{Asked, after_gesture, after_turn, made, turn, BackRefusal, NothingBack, Refused}

abbrev pub are_some : List Event → Bool
are_some [] = false
are_some (e ∷ es) = true

-- the site after these gestures, where each of them makes an event. One that makes none changes nothing, and isn't
-- kept: so no undo takes it back
unfoldable pub gestures : SlowSite → List (List Asked) → Option SlowSite
gestures slow [] = Some slow
gestures slow (asked ∷ more) = if are_some (made slow asked) then gestures (after_gesture slow asked) more else None

-- the site after these undos and redos, where it accepts each
unfoldable pub turns : SlowSite → List Turn → Option SlowSite
turns slow [] = Some slow
turns slow (which ∷ more) = if is_ok (turn slow which) then turns (after_turn slow which) more else None

-- how many gestures are done after these, where so many are done and so many are taken back; none where there is
-- nothing to take back, or to do again
abbrev pub done_after : List Turn → ℕ → ℕ → Option ℕ
done_after [] done back = Some done
done_after (Undo ∷ more) zero back = None
done_after (Undo ∷ more) (suc done) back = done_after more done (suc back)
done_after (Redo ∷ more) done zero = None
done_after (Redo ∷ more) done (suc back) = done_after more (suc done) back

-- why an undo or a redo may be refused
abbrev pub IsMet : BackRefusal → Type 0
IsMet NothingBack = Unit {0}
IsMet (Refused ClockEnd) = Unit {0}
IsMet (Refused SessionFull) = Unit {0}
IsMet (Refused why) = ⊥
