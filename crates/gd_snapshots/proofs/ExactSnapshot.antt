-- A snapshot is read where its bytes stand, and nowhere else.
use Rattle.std.proofs.Common.{◌≡◌, ℕ, ◌*◌, ◌≤◌, List, [], ◌∷◌, ◌++◌, length, None, Ok, refl, sym, ap, ◌∙◌, append_assoc}
use Rattle.std.proofs.Common.{arith}
use Rattle.std.specs.List.{AllByRecursion, sum_by}
use Rattle.std.proofs.lemmas.List.Sums.{sum-map, sum_by-cons}
use Rattle.gd_grammar.specs.Drawings.{spelling}
use Rattle.gd_grammar.specs.Exact.{Exact}
use Rattle.gd_grammar.specs.FieldBytes.{word_bytes, each_bytes}
use Rattle.gd_grammar.specs.Reading.{AllFollow}
use Rattle.gd_grammar.proofs.Exact.{joined, spelt, taking, done, ok_is, result_of}
use Rattle.gd_grammar.proofs.Many.{SoMany, exact_many}
use Rattle.gd_snapshots.specs.Snapshots.{IsKept, IsKnown, IsPlaced, IsSnapshot, Snapshot, id_of, stamp_of, total}
use Rattle.gd_snapshots.specs.SnapshotBytes.{SnapshotMisread, of_a_site, nothing_of, all_known_at, placed_at, kept_at}
use Rattle.gd_snapshots.specs.SnapshotBytes.{snapshot_at, head_bytes, known_bytes, placed_bytes, snapshot_bytes}
use Rattle.gd_snapshots.specs.declared.known.Known.{Known}
use Rattle.gd_snapshots.proofs.ExactParts.{exact_head, head_spelling, exact_known, exact_number_within, exact_in_view}
use Rattle.gd_snapshots.proofs.ExactParts.{exact_placed, exact_kept}

-- ---- what is known of all sites

-- what is known of a site, whatever is known of the one before it
abbrev pub KnownOf : Unit {0} → Known → Type 0
KnownOf last k = IsKnown k

pub known-follow : (ks : List Known) → AllByRecursion IsKnown ks → AllFollow KnownOf nothing_of tt ks
unfolding AllFollow
known-follow [] all = tt
known-follow (k ∷ ks) all = (all.0, known-follow ks all.1)

pub follow-known : (ks : List Known) → AllFollow KnownOf nothing_of tt ks → AllByRecursion IsKnown ks
unfolding AllFollow
follow-known [] all = tt
follow-known (k ∷ ks) all = (all.0, follow-known ks all.1)

pub exact_all_known : (sites : ℕ)
    → Exact (all_known_at sites) (SoMany KnownOf nothing_of sites tt) (each_bytes known_bytes)
exact_all_known sites = exact_many of_a_site KnownOf known_bytes nothing_of (λ last. exact_known) sites tt

counts-few : (ks : List Known) → AllByRecursion IsKnown ks → sum_by (λ k. k.count) ks ≤ 65535 * length ks
counts-few [] all = omega arith
counts-few (k ∷ ks) all = omega (arith, sum_by-cons (λ k. k.count) k ks, all.0.count, counts-few ks all.1)

-- the sites made at most 65,535 events each
pub total-few : (ks : List Known) → AllByRecursion IsKnown ks → total ks ≤ 65535 * length ks
total-few ks all = rw (sum-map (λ k. k.count) ks) (counts-few ks all)

-- ---- the snapshot

in-turn : (head known count objects left kept rest : List ℕ)
    → (head ++ known ++ count ++ objects ++ left ++ kept) ++ rest
    ≡ head ++ (known ++ (count ++ (objects ++ (left ++ (kept ++ rest)))))
in-turn head known count objects left kept rest =
    append_assoc (head ++ known ++ count ++ objects ++ left) kept rest
    ∙ append_assoc (head ++ known ++ count ++ objects) left (kept ++ rest)
    ∙ append_assoc (head ++ known ++ count) objects (left ++ (kept ++ rest))
    ∙ append_assoc (head ++ known) count (objects ++ (left ++ (kept ++ rest)))
    ∙ append_assoc head known (count ++ (objects ++ (left ++ (kept ++ rest))))

snapshot-written : (s : Snapshot) (rest : List ℕ) → IsSnapshot s → snapshot_at (snapshot_bytes s ++ rest) ≡ Ok (s, rest)
unfolding snapshot_at snapshot_bytes
snapshot-written s rest is =
    let made = total-few s.known is.known in
    let kept = each_bytes spelling s.kept ++ rest in
    let left = word_bytes (length s.kept) ++ kept in
    let objects = each_bytes placed_bytes s.objects ++ left in
    let count = word_bytes (length s.objects) ++ objects in
    rw (
      in-turn (head_bytes s) (each_bytes known_bytes s.known) (word_bytes (length s.objects))
          (each_bytes placed_bytes s.objects) (word_bytes (length s.kept)) (each_bytes spelling s.kept) rest,
      exact_head.written (record { session = s.session; site = s.site; sites = length s.known })
          (each_bytes known_bytes s.known ++ count)
          (record { session = is.session; site_above = is.site_above; site_below = is.site_below; few = is.few }),
      (exact_all_known (length s.known)).written s.known count
          (record { long = refl; follow = known-follow s.known is.known }),
      (exact_number_within (total s.known) 0).written (length s.objects) objects
          (record { fits = omega (arith, is.made); below = omega (arith, is.made, made, is.few) }),
      (exact_many placed_at IsPlaced placed_bytes id_of exact_placed (length s.objects) None).written s.objects left
          (record { long = refl; follow = is.objects }),
      (exact_number_within (total s.known) (length s.objects)).written (length s.kept) kept
          (record { fits = is.made; below = omega (arith, is.made, made, is.few) }),
      (exact_many (kept_at s.known) (IsKept s.known) spelling stamp_of (exact_kept s.known) (length s.kept)
          None).written s.kept rest (record { long = refl; follow = is.kept }),
    ) refl

pub exact_snapshot : Exact snapshot_at IsSnapshot snapshot_bytes
unfolding snapshot_at snapshot_bytes
exact_snapshot = record {
  written = snapshot-written;
  taken = λ bytes z are e.
      taking (exact_in_view exact_head) bytes are _ z e (λ head.
      taking (exact_in_view (exact_all_known head.value.sites)) head.rest head.left _ z head.on (λ known.
      taking (exact_in_view (exact_number_within (total known.value) 0)) known.rest known.left _ z known.on (λ count.
      taking (exact_many placed_at IsPlaced placed_bytes id_of exact_placed count.value None) count.rest count.left _ z
      count.on (λ objects.
      taking (exact_in_view (exact_number_within (total known.value) (length objects.value))) objects.rest objects.left
      _ z objects.on (λ left.
      taking (exact_many (kept_at known.value) (IsKept known.value) spelling stamp_of (exact_kept known.value)
      left.value None) left.rest left.left _ z left.on (λ kept.
      let sites : head.value.sites ≡ length known.value = sym known.sound.long in
      done _ z kept.on (record {
        sound = record {
          session = head.sound.session;
          site_above = head.sound.site_above;
          site_below = rw (← sites) head.sound.site_below;
          few = rw (← sites) head.sound.few;
          known = follow-known known.value known.sound.follow;
          objects = objects.sound.follow;
          kept = kept.sound.follow;
          made = rw kept.sound.long left.sound.fits;
        };
        text = joined (joined (joined (joined (joined
            (spelt head.text (ap (λ (n : ℕ). head_spelling
            (record { session = head.value.session; site = head.value.site; sites = n })) sites))
            known.text) (spelt count.text (ap word_bytes (sym objects.sound.long)))) objects.text)
            (spelt left.text (ap word_bytes (sym kept.sound.long)))) kept.text;
      })))))));
}

-- no snapshot's bytes are the beginning of another's
pub no-snapshot-prefix : (s t : Snapshot) (q r : List ℕ) → IsSnapshot s → IsSnapshot t
    → snapshot_bytes s ++ q ≡ snapshot_bytes t ++ r → s ≡ t
no-snapshot-prefix s t q r good other same =
    let read : result_of {E = SnapshotMisread} (s, q) ≡ result_of (t, r) = sym (exact_snapshot.written s q good)
    ∙ ap snapshot_at same ∙ exact_snapshot.written t r other in
    ap (λ (x : Snapshot × List ℕ). x.0) (ok_is (s, q) (t, r) read)
