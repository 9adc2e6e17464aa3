use Rattle.std.proofs.Common.{◌∙◌, ap, not}
use Rattle.std.specs.Prelude.{Some, unwrap_or, is_some}
use Rattle.gd_slots.specs.Slots.{board_of}
use Rattle.gd_slots.proofs.SlotLemmas.{slot_holds, slot_written, no_slot, filled}
use Rattle.gd_slots.proofs.slots.Slots.fill.Goals as goal
use Rattle.gd_slots.proofs.slots.Slots.fill.Goals.{in-Some, in-None}

pub returns-clause-board : goal.returns-clause-board
returns-clause-board g c =
    elim c.match-get_mut.branch [
      | in-Some w ↦
          ap (λ i. board_of i.entries.entries) w.self-inside-is
          ∙ slot_written _ _ _ c.args.id _ _ (λ x. Some (unwrap_or x c.args.new)) c.self.view_is w.in-Some.ensures.value
          (c.get_mut.follows.holds w.fill_slot.new.slot).0 w.fill_slot.ensures.value
          ∙ filled (board_of c.args.self.now) c.args.id c.args.new
      | in-None w ↦ absurd (no_slot _ _ c.args.id c.self.view_is w.in-None.ensures.value c.requires)
    ]

pub returns-clause-filled : goal.returns-clause-filled
returns-clause-filled g c =
    elim c.match-get_mut.branch [
      | in-Some w ↦ w.result-is ∙ w.fill_slot.ensures.filled
          ∙ ap (λ x. not (is_some x)) (slot_holds _ _ c.args.id _ c.self.view_is w.in-Some.ensures.value)
      | in-None w ↦ absurd (no_slot _ _ c.args.id c.self.view_is w.in-None.ensures.value c.requires)
    ]
