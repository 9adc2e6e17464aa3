use Rattle.gd_slots.proofs.CopyLemmas.{slot_pushed}
use Rattle.gd_slots.proofs.slots.Slots.push.Goals as goal

pub returns : goal.returns
returns g c = slot_pushed c.self.inside.entries.entries c.args.self.now _ c.args.slot c.self.view_is
    c.in_ok-insert.ensures.entries
