use Rattle.std.proofs.Common.{◌≤◌, ◌+◌, ◌/◌, length, ap, ◌∙◌, refl, arith}
use Rattle.gd_chunks.specs.declared.starts.TheConstants.{BLOCK}
use Rattle.gd_chunks.specs.Rows.{raised}
use Rattle.gd_chunks.proofs.Summed.{length-summed, offset_room, block_room, summed-raised, AreSummed-raised}
use Rattle.gd_chunks.proofs.starts.Starts.raise.Goals as goal

pub overflow_mul-next : goal.overflow_mul-next
overflow_mul-next c =
    let inside = c.self.inside in
    let within = rw (← c.self.view_is) at c.requires.from in
    omega (
      arith,
      within,
      length-summed inside.blocks.items inside.offsets.items,
      inside.offsets.ok.0,
      inside.offsets.ok.1,
      inside.offsets.small,
    )

pub raise_between-requires-clause-fits : goal.raise_between-requires-clause-fits
raise_between-requires-clause-fits c k high low =
    let inside = c.self.inside in
    let room = rw (← c.self.view_is) at c.requires.room in
    offset_room inside.blocks.items inside.offsets.items c.self.invariant c.args.from
    (omega (arith, rw (← c.self.view_is) at c.requires.from, length-summed inside.blocks.items inside.offsets.items))
    room k (omega (arith, c.min-end.ensures, c.len.ensures, inside.offsets.ok.0))

pub raise_between-requires-2-clause-fits : goal.raise_between-requires-2-clause-fits
raise_between-requires-2-clause-fits c k high low =
    let inside = c.self.inside in
    let room = rw (← c.self.view_is) at c.requires.room in
    block_room inside.blocks.items inside.offsets.items c.self.invariant c.args.from
    (omega (arith, rw (← c.self.view_is) at c.requires.from, length-summed inside.blocks.items inside.offsets.items))
    room k (omega (arith, c.len-last.ensures, inside.blocks.ok.0))

pub invariant_of-self : goal.invariant_of-self
invariant_of-self c =
    let inside = c.self.inside in
    let within : c.args.from ≤ length inside.offsets.items =
    omega (
      arith,
      rw (← c.self.view_is) at c.requires.from,
      length-summed inside.blocks.items inside.offsets.items,
    ) in
    let room = rw (← c.self.view_is) at c.requires.room in
    AreSummed-raised inside.blocks.items inside.offsets.items c.self.invariant c.args.from within room
    c.raise_between-2.new.numbers.items c.raise_between.new.numbers.items
    (c.args.from / BLOCK + 1) c.min-end.result c.len-last.result refl
    (omega (arith, c.min-end.ensures, c.len.ensures, inside.offsets.ok.0))
    (omega (arith, c.len-last.ensures, inside.blocks.ok.0)) c.raise_between.ensures c.raise_between-2.ensures

pub returns : goal.returns
returns c =
    let inside = c.self.inside in
    let within : c.args.from ≤ length inside.offsets.items =
    omega (
      arith,
      rw (← c.self.view_is) at c.requires.from,
      length-summed inside.blocks.items inside.offsets.items,
    ) in
    let room = rw (← c.self.view_is) at c.requires.room in
    summed-raised inside.blocks.items inside.offsets.items c.self.invariant c.args.from within room
    c.raise_between-2.new.numbers.items c.raise_between.new.numbers.items
    (c.args.from / BLOCK + 1) c.min-end.result c.len-last.result refl
    (omega (arith, c.min-end.ensures, c.len.ensures, inside.offsets.ok.0))
    (omega (arith, c.len-last.ensures, inside.blocks.ok.0)) c.raise_between.ensures c.raise_between-2.ensures
    ∙ ap (λ z. raised c.args.from z.items) c.self.view_is
