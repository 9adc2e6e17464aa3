use Rattle.std.proofs.Common.{◌+◌, ◌*◌, ◌<◌, ◌≤◌, length, take, ap, ◌∙◌, arith}
use Rattle.gd_chunks.specs.Summed.{summed}
use Rattle.gd_chunks.specs.declared.starts.TheConstants.{BLOCK}
use Rattle.gd_chunks.proofs.Summed.{length-summed, summed-take, AreSummed-take}
use Rattle.gd_chunks.proofs.starts.Starts.truncate.Goals as goal

pub invariant_of-self : goal.invariant_of-self
invariant_of-self c =
    let inside = c.self.inside in
    let within : c.args.count ≤ length inside.offsets.items =
    omega (
      arith,
      c.requires,
      length-summed inside.blocks.items inside.offsets.items,
      ap (λ z. length z.items) c.self.view_is,
    ) in
    let holds : c.args.count ≤ BLOCK * c.div_ceil.result = omega (arith, c.div_ceil.ensures) in
    let few : BLOCK * c.div_ceil.result < c.args.count + BLOCK = omega (arith, c.div_ceil.ensures) in
    rw (c.truncate.ensures.items, c.truncate-2.ensures.items)
    (AreSummed-take inside.blocks.items inside.offsets.items c.self.invariant c.args.count c.div_ceil.result within
    holds few)

pub returns-clause-items : goal.returns-clause-items
returns-clause-items c =
    let inside = c.self.inside in
    let within : c.args.count ≤ length inside.offsets.items =
    omega (
      arith,
      c.requires,
      length-summed inside.blocks.items inside.offsets.items,
      ap (λ z. length z.items) c.self.view_is,
    ) in
    let holds : c.args.count ≤ BLOCK * c.div_ceil.result = omega (arith, c.div_ceil.ensures) in
    let few : BLOCK * c.div_ceil.result < c.args.count + BLOCK = omega (arith, c.div_ceil.ensures) in
    (λ j. summed (c.truncate.ensures.items j) (c.truncate-2.ensures.items j))
    ∙ summed-take inside.blocks.items inside.offsets.items c.self.invariant c.args.count c.div_ceil.result within holds
    few
    ∙ ap (λ z. take c.args.count z.items) c.self.view_is

pub returns-clause-room : goal.returns-clause-room
returns-clause-room c =
    let inside = c.self.inside in
    let enough = c.self.invariant.enough in
    let blocks = inside.blocks.ok in
    let offsets = inside.offsets.ok in
    omega (
      arith,
      c.truncate.ensures.capacity,
      c.truncate-2.ensures.capacity,
      c.truncate-2.ensures.len,
      length-summed inside.blocks.items inside.offsets.items,
      ap (λ z. length z.items) c.self.view_is,
      ap (λ z. z.room) c.self.view_is,
      c.requires,
    )
