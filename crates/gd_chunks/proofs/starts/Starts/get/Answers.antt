use Rattle.std.proofs.Common.{◌<◌, length, ap, ◌∙◌, arith, slice_index}
use Rattle.gd_chunks.proofs.Summed.{length-summed, block_inside, sum_fits, sum_read}
use Rattle.gd_chunks.proofs.starts.Starts.get.Goals as goal

pub index-requires : goal.index-requires
index-requires c =
    let inside = c.self.inside in
    let below : c.args.index < length inside.offsets.items =
    omega (
      arith,
      c.requires,
      length-summed inside.blocks.items inside.offsets.items,
      ap (λ z. length z.items) c.self.view_is,
    ) in
    omega (
      arith,
      block_inside inside.blocks.items inside.offsets.items c.self.invariant c.args.index below,
      inside.blocks.ok.0,
    )

pub index-requires-2 : goal.index-requires-2
index-requires-2 c =
    let inside = c.self.inside in
    omega (
      arith,
      c.requires,
      length-summed inside.blocks.items inside.offsets.items,
      ap (λ z. length z.items) c.self.view_is,
      inside.offsets.ok.0,
    )

pub overflow_add-result : goal.overflow_add-result
overflow_add-result c =
    let inside = c.self.inside in
    let below : c.args.index < length inside.offsets.items =
    omega (
      arith,
      c.requires,
      length-summed inside.blocks.items inside.offsets.items,
      ap (λ z. length z.items) c.self.view_is,
    ) in
    omega (
      arith,
      sum_fits inside.blocks.items inside.offsets.items c.self.invariant c.args.index c.index.result.now
          c.index-2.result.now below c.index.ensures c.index-2.ensures,
    )

pub returns : goal.returns
returns c =
    let inside = c.self.inside in
    let below : c.args.index < length inside.offsets.items =
    omega (
      arith,
      c.requires,
      length-summed inside.blocks.items inside.offsets.items,
      ap (λ z. length z.items) c.self.view_is,
    ) in
    sum_read inside.blocks.items inside.offsets.items c.self.invariant c.args.index c.index.result.now
    c.index-2.result.now below c.index.ensures c.index-2.ensures
    ∙ ap (λ z. slice_index z.items c.args.index) c.self.view_is
