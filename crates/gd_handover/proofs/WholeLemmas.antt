-- A snapshot is read part by part, and its bytes are all that was taken.
use Rattle.std.proofs.Common.{◌≡◌, ℕ, ◌≤◌, List, [], ◌∷◌, ◌++◌, length, None, Result, Ok, Err, refl, arith}
use Rattle.std.specs.Prelude.{IfOk, IsSome}
use Rattle.std.proofs.lemmas.List.{append-nil}
use Rattle.gd_base.specs.Results.{◌>>=◌}
use Rattle.gd_events.specs.Events.{Event}
use Rattle.gd_outside.specs.Seen.{SeenSource}
use Rattle.gd_outside.specs.Told.{told}
use Rattle.gd_snapshots.specs.SnapshotBytes.{SnapshotHead, Views, all_kept_at, all_known_at, head_at, in_view}
use Rattle.gd_snapshots.specs.SnapshotBytes.{number_within, objects_at, snapshot_at}
use Rattle.gd_snapshots.specs.Snapshots.{IsSnapshot, Placed, Snapshot, total}
use Rattle.gd_snapshots.specs.declared.known.Known.{Known}
use Rattle.gd_snapshots.proofs.ExactSnapshot.{exact_snapshot}
use Rattle.gd_handover.specs.Parts.{Part}
use Rattle.gd_handover.specs.Reading.{EndsWithin, FrontIs, IsFront, SnapshotIs}
use Rattle.gd_handover.specs.declared.fault.SnapshotFault.{SnapshotFault}
use Rattle.gd_handover.specs.declared.fault.SnapshotFault.TheVariants.{Read, Bad, NoMemory}
use Rattle.gd_handover.specs.declared.reader.Reader.{Reader}
use Rattle.gd_handover.proofs.PartLemmas.{Standing, standing-more, standing-stops, standing-end, part-stops}
use Rattle.gd_handover.proofs.PartLemmas.{part-standing}

-- ---- the parts, and what follows each

abbrev head-part : List ℕ → Views SnapshotHead
head-part bytes = in_view (head_at bytes)

abbrev pub known-part : ℕ → List ℕ → Views (List Known)
known-part sites bytes = in_view (all_known_at sites bytes)

abbrev pub number-part : List Known → ℕ → List ℕ → Views ℕ
number-part known before bytes = in_view (number_within (total known) before bytes)

abbrev snapshot-of : SnapshotHead → List Known → List Placed → List Event → Snapshot
snapshot-of head known objects kept
    = record { session = head.session; site = head.site; known = known; objects = objects; kept = kept }

abbrev behind-kept : SnapshotHead → List Known → List Placed → List Event → List ℕ → Views Snapshot
behind-kept head known objects kept bytes = Ok (snapshot-of head known objects kept, bytes)

abbrev behind-left : SnapshotHead → List Known → List Placed → ℕ → List ℕ → Views Snapshot
behind-left head known objects left bytes
    = all_kept_at known left None bytes >>= λ kept. behind-kept head known objects kept.0 kept.1

abbrev behind-objects : SnapshotHead → List Known → List Placed → List ℕ → Views Snapshot
behind-objects head known objects bytes
    = number-part known (length objects) bytes >>= λ left. behind-left head known objects left.0 left.1

abbrev behind-count : SnapshotHead → List Known → ℕ → List ℕ → Views Snapshot
behind-count head known count bytes
    = objects_at count None bytes >>= λ objects. behind-objects head known objects.0 objects.1

abbrev behind-known : SnapshotHead → List Known → List ℕ → Views Snapshot
behind-known head known bytes = number-part known 0 bytes >>= λ count. behind-count head known count.0 count.1

abbrev behind-head : SnapshotHead → List ℕ → Views Snapshot
behind-head head bytes = known-part head.sites bytes >>= λ known. behind-known head known.0 known.1

snapshot-is : (bytes : List ℕ) → snapshot_at bytes ≡ (head-part bytes >>= λ head. behind-head head.0 head.1)
unfolding snapshot_at
snapshot-is bytes = refl

-- what the snapshot is, is what `rest` gives from here on
abbrev pub Reached : (List ℕ → Views Snapshot) → Reader → Reader → SeenSource → SeenSource → Type 0
Reached rest old now before here = Standing snapshot_at rest old now before here

module _ {r s : Reader} {a b : SeenSource} where
  pub after-head : (head : SnapshotHead) → Part head-part (Ok head) r s a b → Reached (behind-head head) r s a b
  after-head head p = part-standing head-part (λ _. behind-head) snapshot_at snapshot-is head (behind-head head)
      (λ _ _. refl) p

  pub head-stops : (e : SnapshotFault) → Part head-part (Err e) r s a b → Part snapshot_at (Err e) r s a b
  head-stops e p = part-stops head-part (λ _. behind-head) snapshot_at snapshot-is e p

module _ (head : SnapshotHead) {r s t : Reader} {a b c : SeenSource} where
  pub after-known : (known : List Known) → Reached (behind-head head) r s a b
      → Part (known-part head.sites) (Ok known) s t b c → Reached (behind-known head known) r t a c
  after-known known st p = standing-more (known-part head.sites) (behind-known head) (λ bytes. refl) known st p

  pub known-stops : (e : SnapshotFault) → Reached (behind-head head) r s a b
      → Part (known-part head.sites) (Err e) s t b c → Part snapshot_at (Err e) r t a c
  known-stops e st p = standing-stops (known-part head.sites) (behind-known head) (λ bytes. refl) e st p

module _ (head : SnapshotHead) (known : List Known) {r s t : Reader} {a b c : SeenSource} where
  pub after-count : (count : ℕ) → Reached (behind-known head known) r s a b
      → Part (number-part known 0) (Ok count) s t b c → Reached (behind-count head known count) r t a c
  after-count count st p = standing-more (number-part known 0) (behind-count head known) (λ bytes. refl) count st p

  pub count-stops : (e : SnapshotFault) → Reached (behind-known head known) r s a b
      → Part (number-part known 0) (Err e) s t b c → Part snapshot_at (Err e) r t a c
  count-stops e st p = standing-stops (number-part known 0) (behind-count head known) (λ bytes. refl) e st p

  pub after-objects : (count : ℕ) (objects : List Placed) → Reached (behind-count head known count) r s a b
      → Part (objects_at count None) (Ok objects) s t b c → Reached (behind-objects head known objects) r t a c
  after-objects count objects st p
      = standing-more (objects_at count None) (behind-objects head known) (λ bytes. refl) objects st p

  pub objects-stops : (count : ℕ) (e : SnapshotFault) → Reached (behind-count head known count) r s a b
      → Part (objects_at count None) (Err e) s t b c → Part snapshot_at (Err e) r t a c
  objects-stops count e st p = standing-stops (objects_at count None) (behind-objects head known) (λ bytes. refl) e st p

module _ (head : SnapshotHead) (known : List Known) (objects : List Placed) {r s t : Reader} {a b c : SeenSource} where
  pub after-left : (left : ℕ) → Reached (behind-objects head known objects) r s a b
      → Part (number-part known (length objects)) (Ok left) s t b c
      → Reached (behind-left head known objects left) r t a c
  after-left left st p = standing-more (number-part known (length objects)) (behind-left head known objects)
      (λ bytes. refl) left st p

  pub left-stops : (e : SnapshotFault) → Reached (behind-objects head known objects) r s a b
      → Part (number-part known (length objects)) (Err e) s t b c → Part snapshot_at (Err e) r t a c
  left-stops e st p = standing-stops (number-part known (length objects)) (behind-left head known objects)
      (λ bytes. refl) e st p

  pub kept-stops : (left : ℕ) (e : SnapshotFault) → Reached (behind-left head known objects left) r s a b
      → Part (all_kept_at known left None) (Err e) s t b c → Part snapshot_at (Err e) r t a c
  kept-stops left e st p
      = standing-stops (all_kept_at known left None) (behind-kept head known objects) (λ bytes. refl) e st p

  -- all of it was read
  pub snapshot-read : (left : ℕ) (kept : List Event) → Reached (behind-left head known objects left) r s a b
      → Part (all_kept_at known left None) (Ok kept) s t b c
      → Part snapshot_at (Ok (snapshot-of head known objects kept)) r t a c
  snapshot-read left kept st p
      = standing-end (snapshot-of head known objects kept) (λ bytes. refl)
      (standing-more (all_kept_at known left None) (behind-kept head known objects) (λ bytes. refl) kept st p)

-- ---- what was read

-- no byte was ahead, and none was used
abbrev pub fresh : Reader
fresh = record { ahead = []; place = 0 }

pub is-good : (snapshot : Snapshot) {s : Reader} {a b : SeenSource} → Part snapshot_at (Ok snapshot) fresh s a b
    → IsSnapshot snapshot
is-good snapshot {s} p =
    let is = p.is in
    (exact_snapshot.taken p.called.taken (snapshot, s.ahead ++ []) is.are (rw append-nil at (is.is []))).sound

none-ahead : (ahead : List ℕ) → length ahead ≤ 0 → ahead ≡ []
none-ahead [] h = refl
none-ahead (b ∷ ahead) h = absurd (omega arith)

pub whole-exact : (result : Result Snapshot SnapshotFault) {s : Reader} {a b : SeenSource}
    → Part snapshot_at result fresh s a b → IfOk result (λ _. length s.ahead ≤ 0) → IsSome b.left
    → SnapshotIs result (told a.left) (told b.left)
whole-exact (Ok snapshot) {s} {a} {b} p few known =
    let is = p.is.is (told b.left) in
    rw (p.called.handed.now known) (rw (none-ahead s.ahead few) at is)
whole-exact (Err Read) p few known = tt
whole-exact (Err (Bad at why)) {s} {a} {b} p few known =
    let bad = p.is known in
    let there : at ≡ bad.within = omega (arith, bad.there) in
    rw (p.called.handed.now known, there) bad.misread
whole-exact (Err NoMemory) p few known = tt

pub whole-cut : (result : Result Snapshot SnapshotFault) {s : Reader} {a b : SeenSource}
    → Part snapshot_at result fresh s a b → result ≡ Err Read → EndsWithin a.left b.left
whole-cut (Ok snapshot) p h = absurd cc
whole-cut (Err Read) p h = record { taken = p.called.taken; handed = p.called.handed; within = p.is }
whole-cut (Err (Bad at why)) p h = absurd cc
whole-cut (Err NoMemory) p h = absurd cc

-- ---- what is read on

pub front-read : (snapshot : Snapshot) {s : Reader} {a b : SeenSource} → Part snapshot_at (Ok snapshot) fresh s a b
    → length s.ahead ≤ 0 → IsFront snapshot s.place a.left b.left
front-read snapshot {s} p few =
    let none = none-ahead s.ahead few in
    record {
      taken = p.called.taken;
      handed = p.called.handed;
      is = λ more. rw none at p.is.is more;
      long = omega (arith, p.is.moved, few);
    }

pub front-stops : (e : SnapshotFault) {s : Reader} {a b : SeenSource} → Part snapshot_at (Err e) fresh s a b
    → FrontIs (Err e) a.left b.left
front-stops Read p = whole-cut (Err Read) p refl
front-stops (Bad at why) p = whole-exact (Err (Bad at why)) p tt
front-stops NoMemory p = tt
