use Rattle.std.proofs.lemmas.Result.{err_from_is_err_and}
use Rattle.gd_handover.proofs.WholeLemmas.{after-head, after-known, after-count, after-objects, after-left, head-stops}
use Rattle.gd_handover.proofs.WholeLemmas.{known-stops, count-stops, objects-stops, left-stops, kept-stops}
use Rattle.gd_handover.proofs.WholeLemmas.{snapshot-read, is-good}
use Rattle.gd_handover.proofs.reading.read_parts.Goals as goal

pub returns-in_err-head-clause-part : goal.returns-in_err-head-clause-part
returns-in_err-head-clause-part g c =
    let p = err_from_is_err_and c.from_residual.result c.from_residual.ensures.1 in
    rw (p.1, p.2) (head-stops _ c.in_err-head.ensures.part)

pub returns-in_err-known-clause-part : goal.returns-in_err-known-clause-part
returns-in_err-known-clause-part g c =
    let p = err_from_is_err_and c.from_residual-in_err-known.result c.from_residual-in_err-known.ensures.1 in
    let head = after-head c.in_ok-head.head c.in_ok-head.ensures.part in
    rw (p.1, p.2) (known-stops c.in_ok-head.head _ head (rw c.sites.ensures.value at c.in_err-known.ensures.part))

pub returns-in_err-count-clause-part : goal.returns-in_err-count-clause-part
returns-in_err-count-clause-part g c =
    let p = err_from_is_err_and c.from_residual-in_err-count.result c.from_residual-in_err-count.ensures.1 in
    let head = after-head c.in_ok-head.head c.in_ok-head.ensures.part in
    let known = after-known c.in_ok-head.head c.in_ok-known.known head
    (rw c.sites.ensures.value at c.in_ok-known.ensures.part) in
    rw (p.1, p.2) (count-stops c.in_ok-head.head c.in_ok-known.known _ known
    (rw (c.total-made.ensures.value, c.as_slice.ensures) at c.in_err-count.ensures.part))

pub returns-in_err-objects-clause-part : goal.returns-in_err-objects-clause-part
returns-in_err-objects-clause-part g c =
    let p = err_from_is_err_and c.from_residual-in_err-objects.result c.from_residual-in_err-objects.ensures.1 in
    let head = after-head c.in_ok-head.head c.in_ok-head.ensures.part in
    let known = after-known c.in_ok-head.head c.in_ok-known.known head
    (rw c.sites.ensures.value at c.in_ok-known.ensures.part) in
    let count = after-count c.in_ok-head.head c.in_ok-known.known c.in_ok-count.count known
    (rw (c.total-made.ensures.value, c.as_slice.ensures) at c.in_ok-count.ensures.part) in
    rw (p.1, p.2) (objects-stops c.in_ok-head.head c.in_ok-known.known c.in_ok-count.count _ count
    c.in_err-objects.ensures.part)

pub returns-in_err-left-clause-part : goal.returns-in_err-left-clause-part
returns-in_err-left-clause-part g c =
    let p = err_from_is_err_and c.from_residual-in_err-left.result c.from_residual-in_err-left.ensures.1 in
    let head = after-head c.in_ok-head.head c.in_ok-head.ensures.part in
    let known = after-known c.in_ok-head.head c.in_ok-known.known head
    (rw c.sites.ensures.value at c.in_ok-known.ensures.part) in
    let count = after-count c.in_ok-head.head c.in_ok-known.known c.in_ok-count.count known
    (rw (c.total-made.ensures.value, c.as_slice.ensures) at c.in_ok-count.ensures.part) in
    let objects = after-objects c.in_ok-head.head c.in_ok-known.known c.in_ok-count.count c.in_ok-objects.objects count
    c.in_ok-objects.ensures.part in
    rw (p.1, p.2) (left-stops c.in_ok-head.head c.in_ok-known.known c.in_ok-objects.objects _ objects
    (rw (c.total-made.ensures.value, c.as_slice.ensures, ← c.in_ok-objects.ensures.long) at
    c.in_err-left.ensures.part))

pub returns-in_err-kept-clause-part : goal.returns-in_err-kept-clause-part
returns-in_err-kept-clause-part g c =
    let p = err_from_is_err_and c.from_residual-in_err-kept.result c.from_residual-in_err-kept.ensures.1 in
    let head = after-head c.in_ok-head.head c.in_ok-head.ensures.part in
    let known = after-known c.in_ok-head.head c.in_ok-known.known head
    (rw c.sites.ensures.value at c.in_ok-known.ensures.part) in
    let count = after-count c.in_ok-head.head c.in_ok-known.known c.in_ok-count.count known
    (rw (c.total-made.ensures.value, c.as_slice.ensures) at c.in_ok-count.ensures.part) in
    let objects = after-objects c.in_ok-head.head c.in_ok-known.known c.in_ok-count.count c.in_ok-objects.objects count
    c.in_ok-objects.ensures.part in
    let left = after-left c.in_ok-head.head c.in_ok-known.known c.in_ok-objects.objects c.in_ok-left.left objects
    (rw (c.total-made.ensures.value, c.as_slice.ensures, ← c.in_ok-objects.ensures.long) at
    c.in_ok-left.ensures.part) in
    rw (p.1, p.2) (kept-stops c.in_ok-head.head c.in_ok-known.known c.in_ok-objects.objects c.in_ok-left.left _ left
    (rw c.as_slice-2.ensures at c.in_err-kept.ensures.part))

pub new-requires : goal.new-requires
new-requires g c =
    let head = after-head c.in_ok-head.head c.in_ok-head.ensures.part in
    let known = after-known c.in_ok-head.head c.in_ok-known.known head
    (rw c.sites.ensures.value at c.in_ok-known.ensures.part) in
    let count = after-count c.in_ok-head.head c.in_ok-known.known c.in_ok-count.count known
    (rw (c.total-made.ensures.value, c.as_slice.ensures) at c.in_ok-count.ensures.part) in
    let objects = after-objects c.in_ok-head.head c.in_ok-known.known c.in_ok-count.count c.in_ok-objects.objects count
    c.in_ok-objects.ensures.part in
    let left = after-left c.in_ok-head.head c.in_ok-known.known c.in_ok-objects.objects c.in_ok-left.left objects
    (rw (c.total-made.ensures.value, c.as_slice.ensures, ← c.in_ok-objects.ensures.long) at
    c.in_ok-left.ensures.part) in
    let read = snapshot-read c.in_ok-head.head c.in_ok-known.known c.in_ok-objects.objects c.in_ok-left.left
    c.in_ok-kept.kept left (rw c.as_slice-2.ensures at c.in_ok-kept.ensures.part) in
    rw (c.session.ensures, c.site.ensures) (is-good _ (rw c.requires at read))

pub returns-clause-part : goal.returns-clause-part
returns-clause-part g c =
    let head = after-head c.in_ok-head.head c.in_ok-head.ensures.part in
    let known = after-known c.in_ok-head.head c.in_ok-known.known head
    (rw c.sites.ensures.value at c.in_ok-known.ensures.part) in
    let count = after-count c.in_ok-head.head c.in_ok-known.known c.in_ok-count.count known
    (rw (c.total-made.ensures.value, c.as_slice.ensures) at c.in_ok-count.ensures.part) in
    let objects = after-objects c.in_ok-head.head c.in_ok-known.known c.in_ok-count.count c.in_ok-objects.objects count
    c.in_ok-objects.ensures.part in
    let left = after-left c.in_ok-head.head c.in_ok-known.known c.in_ok-objects.objects c.in_ok-left.left objects
    (rw (c.total-made.ensures.value, c.as_slice.ensures, ← c.in_ok-objects.ensures.long) at
    c.in_ok-left.ensures.part) in
    rw (c.new.ensures, c.session.ensures, c.site.ensures)
    (snapshot-read c.in_ok-head.head c.in_ok-known.known c.in_ok-objects.objects c.in_ok-left.left c.in_ok-kept.kept
    left (rw c.as_slice-2.ensures at c.in_ok-kept.ensures.part))
