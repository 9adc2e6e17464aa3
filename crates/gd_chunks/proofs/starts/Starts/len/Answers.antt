use Rattle.std.proofs.Common.{length, ap, arith}
use Rattle.gd_chunks.proofs.Summed.{length-summed}
use Rattle.gd_chunks.proofs.starts.Starts.len.Goals as goal

pub returns : goal.returns
returns c =
    let inside = c.self.inside in
    omega (
      arith,
      c.len.ensures,
      inside.offsets.ok.0,
      length-summed inside.blocks.items inside.offsets.items,
      ap (λ z. length z.items) c.self.view_is,
    )
