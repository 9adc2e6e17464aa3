use Rattle.std.proofs.Common.{◌∙◌, sym, ap, refl}
use Rattle.std.specs.Prelude.{option_map, option_and_then}
use Rattle.gd_slots.specs.Slots.{board_of}
use Rattle.gd_slots.proofs.SlotLemmas.{slot_holds, slot_absent, slot_written, slot_missing}
use Rattle.gd_slots.proofs.slots.Slots.change.Goals as goal
use Rattle.gd_slots.proofs.slots.Slots.change.Goals.{in-Some, in-None}

pub returns-clause-board : goal.returns-clause-board
returns-clause-board g c =
    let made = option_map (g.C.Change.changed c.args.change) in
    elim c.match-get_mut.branch [
      | in-Some w ↦
          ap (λ i. board_of i.entries.entries) w.self-inside-is
          ∙ slot_written _ _ _ c.args.id _ _ made c.self.view_is w.in-Some.ensures.value
          (c.get_mut.follows.holds w.change_slot.new.slot).0 w.change_slot.ensures.value
      | in-None w ↦
          ap (λ i. board_of i.entries.entries) w.self-inside-is
          ∙ slot_missing _ _ _ c.args.id made c.self.view_is w.in-None.ensures.value
          (ap (λ m. m.entries) c.get_mut.follows.holds-at-none) refl
    ]

pub returns-clause-old : goal.returns-clause-old
returns-clause-old g c =
    let found = option_and_then (g.C.Change.replaced c.args.change) in
    elim c.match-get_mut.branch [
      | in-Some w ↦ w.result-is ∙ w.change_slot.ensures.old
          ∙ ap found (slot_holds _ _ c.args.id _ c.self.view_is w.in-Some.ensures.value)
      | in-None w ↦ w.result-is ∙ ap found (sym (slot_absent _ _ c.args.id c.self.view_is w.in-None.ensures.value))
    ]
