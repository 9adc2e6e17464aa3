-- The head, what is known of a site, a number of things, an object behind its id and a kept event are read where their
-- bytes stand, and nowhere else.
use Rattle.std.proofs.Common.{◌≡◌, ℕ, ◌+◌, ◌<◌, ◌≤◌, ◌^◌, Bool, true, false, cond, List, [], ◌∷◌, ◌++◌, Option, Result}
use Rattle.std.proofs.Common.{Ok, Err, refl, ap, arith}
use Rattle.std.specs.Prelude.{nat_le}
use Rattle.std.specs.Int.{bytes_high_first}
use Rattle.std.proofs.lemmas.Bool.{leb-true, le-leb}
use Rattle.gd_base.specs.declared.fault.FieldFault.{FieldFault}
use Rattle.gd_base.specs.declared.fault.FieldWhy.TheVariants as why
use Rattle.gd_base.specs.declared.ranges.TheConstants.{SITES}
use Rattle.gd_base.specs.Stamps.{Stamp}
use Rattle.gd_events.specs.Sound.{is_above}
use Rattle.gd_grammar.specs.Drawings.{spelling}
use Rattle.gd_grammar.specs.Exact.{Exact}
use Rattle.gd_grammar.specs.FieldBytes.{word_bytes}
use Rattle.gd_grammar.specs.Reading.{Reads}
use Rattle.gd_grammar.proofs.DrawingEvents.{exact_event}
use Rattle.gd_grammar.proofs.Exact.{joined, spelt, taking, done, exact_field}
use Rattle.gd_grammar.proofs.ExactFields.{exact_half, exact_word, exact_site, exact_stamp}
use Rattle.gd_grammar.proofs.ExactFrame.{exact-version, exact-six}
use Rattle.gd_grammar.proofs.ExactHeader.{exact-magic, exact-sites}
use Rattle.gd_grammar.specs.Spelling.{object_bytes}
use Rattle.gd_snapshots.specs.Snapshots.{IsKept, IsKnown, IsPlaced, is_bounded}
use Rattle.gd_snapshots.specs.SnapshotBytes.{SnapshotHead, SnapshotMisread, in_view, snapshot_magic, head_at, known_at}
use Rattle.gd_snapshots.specs.SnapshotBytes.{number_within, placed_at, kept_at, known_bytes, placed_bytes}
use Rattle.gd_snapshots.specs.declared.known.Known.{Known}
use Rattle.gd_snapshots.proofs.ExactObject.{exact_object}

-- ---- the head

-- a session of four bytes, and one of its sites, of which there are at most 16
pub record IsSnapshotHead (h : SnapshotHead) : Type 0 where
  pub session : h.session < 2 ^ 32
  pub site_above : 1 ≤ h.site
  pub site_below : h.site ≤ h.sites
  pub few : h.sites ≤ SITES

abbrev pub head_spelling : SnapshotHead → List ℕ
head_spelling h = word_bytes snapshot_magic ++ 3 ∷ [] ++ word_bytes h.session ++ h.site ∷ [] ++ h.sites ∷ []

pub exact_head : Exact head_at IsSnapshotHead head_spelling
unfolding head_at
exact_head = record {
  written = λ h rest s.
      let lower : h.site ≤ SITES = omega (arith, s.site_below, s.few) in
      rw (
        (exact-magic snapshot_magic (omega arith)).written snapshot_magic
            (3 ∷ (word_bytes h.session ++ h.site ∷ h.sites ∷ rest)) refl,
        exact-version.written 3 (word_bytes h.session ++ h.site ∷ h.sites ∷ rest) refl,
        exact_word.written h.session (h.site ∷ h.sites ∷ rest) s.session,
        exact_site.written h.site (h.sites ∷ rest) (s.site_above, lower),
        (exact-sites h.site).written h.sites rest (record { below = s.site_below; few = s.few }),
      ) refl;
  taken = λ bytes z are e.
      taking (exact-magic snapshot_magic (omega arith)) bytes are _ z e (λ m.
      taking exact-version m.rest m.left _ z m.on (λ v.
      taking exact_word v.rest v.left _ z v.on (λ session.
      taking exact_site session.rest session.left _ z session.on (λ site.
      taking (exact-sites site.value) site.rest site.left _ z site.on (λ sites.
      done _ z sites.on (record {
        sound = record {
          session = session.sound;
          site_above = site.sound.0;
          site_below = sites.sound.below;
          few
              = sites.sound.few;
        };
        text = joined (joined
            (joined (joined (spelt m.text (ap word_bytes m.sound)) (spelt v.text (ap (λ (b : ℕ). b ∷ []) v.sound)))
            session.text) site.text) sites.text;
      }))))));
}

-- ---- what is known of a site

pub exact_known : Exact known_at IsKnown known_bytes
unfolding known_at
exact_known = record {
  written = λ k rest s. rw
      (exact_half.written k.count (bytes_high_first 6 k.sure ++ rest) s.count, exact-six.written k.sure rest s.sure)
      refl;
  taken = λ bytes z are e.
      taking exact_half bytes are _ z e (λ count.
      taking exact-six count.rest count.left _ z count.on (λ sure.
      done _ z sure.on (record
      { sound = record { count = count.sound; sure = sure.sound }; text = joined count.text sure.text })));
}

-- ---- a number of things

-- a number of four bytes, at most `most` with those that came before
pub record IsNumberWithin (most before n : ℕ) : Type 0 where
  pub fits : before + n ≤ most
  pub below : n < 2 ^ 32

pub exact_number_within : (most before : ℕ) → Exact (number_within most before) (IsNumberWithin most before) word_bytes
unfolding number_within
exact_number_within most before
    = exact_field exact_word (λ n. n) (λ n. n) (λ n. nat_le (before + n) most) why.Field (IsNumberWithin most before)
    (λ n s. (s.below, refl, le-leb (before + n) most s.fits))
    (λ n below are t. (record { fits = leb-true (before + n) most t; below = below }, refl))

-- ---- parts with the faults of a snapshot

view-ok : {A : Type 0} (r : Result A FieldFault) (x : A) → in_view r ≡ Ok x → r ≡ Ok x
view-ok (Ok y) x e = let k : y ≡ x = cc in rw k refl
view-ok (Err f) x e = absurd cc

-- a field, as a part of a snapshot
pub exact_in_view : {A : Type 0} {r : List ℕ → Reads A} {Sound : A → Type 0} {spell : A → List ℕ} → Exact r Sound spell
    → Exact (λ bytes. in_view (r bytes)) Sound spell
exact_in_view {r = r} exact = record {
  written = λ x rest s. rw (exact.written x rest s) refl;
  taken = λ bytes z are e. exact.taken bytes z are (view-ok (r bytes) z e);
}

-- a test that let reading go on
on-ok : {A : Type 0} (t : Bool) (r : Result A SnapshotMisread) (z : A) (m : SnapshotMisread) → cond t r (Err m) ≡ Ok z
    → (t ≡ true) × (r ≡ Ok z)
on-ok true r z m e = (refl, e)
on-ok false r z m e = absurd cc

pub exact_placed : (last : Option Stamp) → Exact (placed_at last) (IsPlaced last) placed_bytes
unfolding placed_at
exact_placed last = record {
  written = λ p rest s. rw
      (exact_stamp.written p.0 (object_bytes p.1 ++ rest) s.id, s.above, exact_object.written p.1 rest s.object) refl;
  taken = λ bytes z are e.
      taking (exact_in_view exact_stamp) bytes are _ z e (λ id.
      let above = on-ok (is_above last id.value) _ z _ id.on in
      taking (exact_in_view exact_object) id.rest id.left _ z above.1 (λ object.
      done _ z object.on (record {
        sound = record { id = id.sound; above = above.0; object = object.sound };
        text
            = joined id.text object.text;
      })));
}

pub exact_kept : (known : List Known) (last : Option Stamp) → Exact (kept_at known last) (IsKept known last) spelling
unfolding kept_at
exact_kept known last = record {
  written = λ e rest s. rw (exact_event.written e rest s.sound, s.above, s.bounded) refl;
  taken = λ bytes z are h.
      taking (exact_in_view exact_event) bytes are _ z h (λ e.
      let above = on-ok (is_above last e.value.stamp) _ z _ e.on in
      let bounded = on-ok (is_bounded known e.value) _ z _ above.1 in
      done (e.value, e.rest) z bounded.1
      (record { sound = record { sound = e.sound; above = above.0; bounded = bounded.0 }; text = e.text }));
}
