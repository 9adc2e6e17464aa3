use Rattle.std.proofs.Common.{◌≡◌, ◌-◌, ◌<◌, ◌≤◌, List, length, get_or, refl, arith}
use Rattle.std.specs.Prelude.{◌&&◌, nat_le, nat_lt}
use Rattle.std.proofs.lemmas.Bool.{le-leb}
use Rattle.gd_events.specs.Events.{Event}
use Rattle.gd_snapshots.specs.Snapshots.{is_bounded, least_sure, unknown}
use Rattle.gd_snapshots.specs.declared.known.Known.{Known}
use Rattle.gd_handover.proofs.judged.is_bounded.Goals as goal

bounded-by : (known : List Known) (e : Event) (of : Known) → 1 ≤ e.stamp.site → e.stamp.site - 1 < length known
    → of ≡ get_or known (e.stamp.site - 1) unknown
    → (nat_le e.number of.count && (nat_lt (least_sure known) e.stamp.clock && nat_le e.stamp.clock of.sure))
    ≡ is_bounded known e
bounded-by known e of above below is = rw (is, le-leb e.stamp.site (length known) (omega arith)) refl

pub returns-in-Some : goal.returns-in-Some
returns-in-Some c =
    let range = rw c.stamp-stamp.ensures at c.site.ensures.range in
    let found = rw (c.site.ensures.value, c.stamp-stamp.ensures) at c.in-Some.ensures.lookup.3 in
    rw (c.is_within.ensures, c.number.ensures, c.clock.ensures.value, c.stamp-stamp.ensures, c.requires)
    (bounded-by c.args.known.now c.args.event.now c.in-Some.of.now range.site_above found.0 (found.1 unknown))
