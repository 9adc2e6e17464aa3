use Rattle.std.proofs.Common.{◌≡◌, ◌/◌, [], ◌∷◌, ◌++◌, length, get_or, ap, ◌∙◌, arith}
use Rattle.gd_chunks.specs.Summed.{summed}
use Rattle.gd_chunks.specs.declared.starts.TheConstants.{BLOCK}
use Rattle.gd_chunks.proofs.Summed.{summed-begun, summed-more, block_low}
use Rattle.gd_chunks.proofs.starts.Starts.push_reserved.Goals as goal

pub returns-then-block-len-clause-items : goal.returns-then-block-len-clause-items
returns-then-block-len-clause-items c =
    let inside = c.self.inside in
    let end : length inside.offsets.items / BLOCK ≡ length inside.blocks.items =
    omega (
      arith,
      c.if-block-len.true,
      c.len-block.ensures,
      c.len.ensures,
      inside.blocks.ok.0,
      inside.offsets.ok.0,
    ) in
    (λ j. summed (c.push_reserved.ensures.items j) (c.push_reserved-then-block-len.ensures.items j))
    ∙ summed-begun inside.blocks.items inside.offsets.items c.self.invariant c.args.number end
    ∙ ap (λ z. z.items ++ c.args.number ∷ []) c.self.view_is

pub overflow_sub-offset : goal.overflow_sub-offset
overflow_sub-offset c =
    let inside = c.self.inside in
    let within : length inside.offsets.items / BLOCK ≡ length inside.blocks.items → ⊥ =
    λ end. c.if-block-len.false
    (omega (arith, c.len-block.ensures, c.len.ensures, inside.blocks.ok.0, inside.offsets.ok.0)) in
    let block =
    c.index.ensures ∙ ap (λ m. get_or inside.blocks.items (m / BLOCK) c.index.result.now)
    (c.len-block.ensures ∙ inside.offsets.ok.0) in
    let rising = rw (← c.self.view_is) at c.requires.rising in
    block_low inside.blocks.items inside.offsets.items c.self.invariant c.index.result.now c.args.number within block
    rising

pub returns-clause-items : goal.returns-clause-items
returns-clause-items c =
    let inside = c.self.inside in
    let within : length inside.offsets.items / BLOCK ≡ length inside.blocks.items → ⊥ =
    λ end. c.if-block-len.false
    (omega (arith, c.len-block.ensures, c.len.ensures, inside.blocks.ok.0, inside.offsets.ok.0)) in
    let block =
    c.index.ensures ∙ ap (λ m. get_or inside.blocks.items (m / BLOCK) c.index.result.now)
    (c.len-block.ensures ∙ inside.offsets.ok.0) in
    let rising = rw (← c.self.view_is) at c.requires.rising in
    ap (λ l. summed inside.blocks.items l) c.push_reserved-2.ensures.items
    ∙ summed-more inside.blocks.items inside.offsets.items c.self.invariant c.index.result.now c.args.number within
    block rising
    ∙ ap (λ z. z.items ++ c.args.number ∷ []) c.self.view_is
