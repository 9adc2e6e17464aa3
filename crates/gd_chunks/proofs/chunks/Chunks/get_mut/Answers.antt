use Rattle.std.proofs.Common.{ap, refl, set}
use Rattle.gd_chunks.proofs.Kept.{at_inside, read_kept, AreKept-replace, items-replace}
use Rattle.gd_chunks.proofs.chunks.Chunks.get_mut.Goals as goal

pub invariant_of-self-lent : goal.invariant_of-self-lent
invariant_of-self-lent g c w =
    let inside = c.self.inside in
    let rows = inside.rows.items in
    let items = c.args.self.now.items in
    let view = ap (λ z. z.items) c.self.view_is in
    let at = c.find-place.result in
    let row = c.index_mut.result.now in
    let place = rw c.as_slice.ensures.value at c.find-place.ensures.place in
    let within =
    rw c.as_slice.ensures.value at c.find-place.ensures.inside
    (at_inside rows inside.starts.items inside.count inside.trimmed c.self.invariant.0 items view c.args.index
    c.requires) in
    let kept =
    AreKept-replace rows inside.starts.items inside.count inside.trimmed c.self.invariant.0 items view c.args.index
    at.row at.column place row c.index_mut.ensures.value w (set row at.column w) refl within in
    (kept, c.self.invariant.1, c.self.invariant.2)

pub returns : goal.returns
returns g c =
    let inside = c.self.inside in
    let rows = inside.rows.items in
    let items = c.args.self.now.items in
    let view = ap (λ z. z.items) c.self.view_is in
    let at = c.find-place.result in
    let row = c.index_mut.result.now in
    let read = c.index_mut.ensures.value in
    let place = rw c.as_slice.ensures.value at c.find-place.ensures.place in
    let within =
    rw c.as_slice.ensures.value at c.find-place.ensures.inside
    (at_inside rows inside.starts.items inside.count inside.trimmed c.self.invariant.0 items view c.args.index
    c.requires) in (
      (
        refl {a = c.get_mut.result.ghost_name},
        λ w j. record {
          items =
              items-replace rows inside.starts.items inside.count inside.trimmed c.self.invariant.0 items view
              c.args.index at.row at.column place row read w (set row at.column w) refl within j;
          spare = (c.self.view_is j).spare;
        },
      ),
      record {
        writes_back = tt;
        value =
            read_kept rows inside.starts.items inside.count inside.trimmed c.self.invariant.0 items view c.args.index
            at.row at.column place row read c.get_mut.result.now within c.get_mut.ensures.value;
      },
    )
