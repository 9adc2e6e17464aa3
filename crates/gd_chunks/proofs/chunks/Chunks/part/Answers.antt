use Rattle.std.proofs.Common.{◌+◌, ◌-◌, ◌<◌, [], length, slice_index, ap, arith}
use Rattle.std.proofs.lemmas.List.{get_or_read}
use Rattle.gd_chunks.specs.Rows.{IsPlace}
use Rattle.gd_chunks.proofs.Kept.{run_kept}
use Rattle.gd_chunks.proofs.RowStarts.{length-starts, start_at}
use Rattle.gd_chunks.proofs.chunks.Chunks.part.Goals as goal

pub get-start-requires : goal.get-start-requires
get-start-requires g c =
    let inside = c.self.inside in
    let within = c.if-row-len.false in
    omega (
      arith,
      c.len.ensures,
      ap length c.self.invariant.0.starts_are,
      length-starts 0 inside.rows.items,
    )

pub returns : goal.returns
returns g c =
    let inside = c.self.inside in
    let rows = inside.rows.items in
    let kept = c.self.invariant.0 in
    let row = c.args.row in
    let column = c.saturating_sub-column.result in
    let index = (c.get-start.result + column) - inside.trimmed in
    let within = c.if-row-len.false in
    let inside_rows : row < length rows = omega (arith, c.len.ensures) in
    let row_is = get_or_read rows row c.index.result.now inside_rows c.index.ensures [] in
    let short = c.if-column-len.false in
    let place : IsPlace rows (inside.trimmed + index) row column =
    record {
      row = inside_rows;
      column = omega (arith, c.len-2.ensures.len, ap length row_is);
      here =
          omega (
            arith,
            c.saturating_sub-column.ensures,
            c.get-start.ensures,
            ap (λ l. slice_index l row) kept.starts_are,
            start_at 0 rows row inside_rows,
          );
    } in
    run_kept rows inside.starts.items inside.count inside.trimmed kept c.args.self.now.items
    (ap (λ z. z.items) c.self.view_is) index row column place c.index-2.result.now c.index-2.ensures
    c.tail.result.now c.tail.ensures
