-- The bytes of a snapshot, which has version 3: a head, what is known of each site, the number of its objects, the
-- objects each behind its id, the number of its kept events, and the events. What follows them is no part of it.
--
-- An id that isn't above the one before it is Order at its first byte, which is judged once the id was read. Once a
-- kept event was read it is judged whether its stamp is above the one before it (else Order), and then whether it is
-- bounded by what is known of its site (else Bound), both at its first byte. More objects, or objects and kept events,
-- than the sites made events are Field at their number.
use Rattle.std.specs.Prelude.{ℕ, ◌+◌, nat_le, if◌then◌else◌, List, [], ◌∷◌, ◌++◌, length, map, Option, None, Result, Ok}
use Rattle.std.specs.Prelude.{Err}
use Rattle.std.specs.Int.{bytes_high_first}
use Rattle.gd_base.specs.Results.{◌>>=◌}
use Rattle.gd_base.specs.Stamps.{Stamp}
use Rattle.gd_base.specs.declared.fault.FieldFault.{FieldFault}
use Rattle.gd_base.specs.declared.fault.FieldWhy.{FieldWhy}
use Rattle.gd_base.specs.declared.fault.FieldWhy.TheVariants as field
use Rattle.gd_base.specs.declared.fault.ViewWhy.{ViewWhy}
use Rattle.gd_base.specs.declared.fault.ViewWhy.TheVariants.{Short, Magic, Version, Field, FutureId, MemberOrder, Order}
use Rattle.gd_base.specs.declared.fault.ViewWhy.TheVariants.{Bound}
use Rattle.gd_events.specs.Events.{Event}
use Rattle.gd_events.specs.Sound.{is_above}
use Rattle.gd_grammar.specs.Drawings.{event_at, spelling}
use Rattle.gd_grammar.specs.FieldBytes.{stamp_bytes, word_bytes, each_bytes}
use Rattle.gd_grammar.specs.Fields.{site_at, stamp_at, word_at}
use Rattle.gd_grammar.specs.FrameBytes.{frame_version_at, six_at}
use Rattle.gd_grammar.specs.Fields.{half_at}
use Rattle.gd_grammar.specs.HeaderBytes.{magic_at, sites_at}
use Rattle.gd_grammar.specs.ObjectBytes.{object_at}
use Rattle.gd_grammar.specs.Reading.{Reads, many_at, ranged}
use Rattle.gd_grammar.specs.Spelling.{object_bytes}
use Rattle.gd_snapshots.specs.Snapshots.{Placed, Snapshot, id_of, is_bounded, stamp_of, total}
use Rattle.gd_snapshots.specs.declared.known.Known.{Known}

-- why bytes are no snapshot, and how many of them stand from the fault's place on
pub record SnapshotMisread : Type 0 where
  pub why : ViewWhy
  pub left : ℕ

-- the fault of a field, as a fault of the snapshot
abbrev pub view_why : FieldWhy → ViewWhy
view_why field.Short = Short
view_why field.Magic = Magic
view_why field.Version = Version
view_why field.Field = Field
view_why field.FutureId = FutureId
view_why field.MemberOrder = MemberOrder

abbrev pub Views : Type 0 → Type 0
Views A = Result (A × List ℕ) SnapshotMisread

abbrev pub in_view : {A : Type 0} → Result A FieldFault → Result A SnapshotMisread
in_view (Ok x) = Ok x
in_view (Err fault) = Err (record { why = view_why fault.why; left = fault.left })

-- the fault at the place from which on these bytes stand
abbrev pub misread_at : ViewWhy → List ℕ → SnapshotMisread
misread_at why bytes = record { why = why; left = length bytes }

-- ---- the head

-- GDOS
abbrev pub snapshot_magic : ℕ
snapshot_magic = 0x47444F53

-- the session, the site, and how many sites there are
pub record SnapshotHead : Type 0 where
  pub session : ℕ
  pub site : ℕ
  pub sites : ℕ

unfoldable pub head_at : List ℕ → Reads SnapshotHead
head_at bytes = do
  magic ← magic_at snapshot_magic bytes
  version ← frame_version_at magic.1
  session ← word_at version.1
  site ← site_at session.1
  sites ← sites_at site.0 site.1
  Ok (record { session = session.0; site = site.0; sites = sites.0 }, sites.1)

unfoldable pub known_at : List ℕ → Reads Known
known_at bytes = do
  count ← half_at bytes
  sure ← six_at count.1
  Ok (record { count = count.0; sure = sure.0 }, sure.1)

-- of so many sites; no site's depends on the one before it
abbrev pub of_a_site : Unit {0} → List ℕ → Reads Known
of_a_site last bytes = known_at bytes

abbrev pub nothing_of : Known → Unit {0}
nothing_of known = tt

abbrev pub all_known_at : ℕ → List ℕ → Reads (List Known)
all_known_at sites bytes = many_at of_a_site nothing_of sites tt bytes

-- ---- objects and kept events

-- how many there are, at most `most` with those that came before them
unfoldable pub number_within : ℕ → ℕ → List ℕ → Reads ℕ
number_within most before bytes = do
  number ← word_at bytes
  ranged (nat_le (before + number.0) most) number.0 bytes number.1

-- an object behind its id, which is above the last one, if there is one
unfoldable pub placed_at : Option Stamp → List ℕ → Views Placed
placed_at last bytes =
    in_view (stamp_at bytes)
    >>= λ id. if is_above last id.0
    then (in_view (object_at None id.1) >>= λ object. Ok ((id.0, object.0), object.1))
    else Err (misread_at Order bytes)

abbrev pub objects_at : ℕ → Option Stamp → List ℕ → Views (List Placed)
objects_at count last bytes = many_at placed_at id_of count last bytes

-- an event whose stamp is above the last one, if there is one, and that is bounded
unfoldable pub kept_at : List Known → Option Stamp → List ℕ → Views Event
kept_at known last bytes =
    in_view (event_at bytes)
    >>= λ e. if is_above last e.0.stamp
    then (if is_bounded known e.0 then Ok e else Err (misread_at Bound bytes))
    else Err (misread_at Order bytes)

abbrev pub all_kept_at : List Known → ℕ → Option Stamp → List ℕ → Views (List Event)
all_kept_at known count last bytes = many_at (kept_at known) stamp_of count last bytes

-- ---- the snapshot

-- a snapshot at the front of these bytes
unfoldable pub snapshot_at : List ℕ → Views Snapshot
snapshot_at bytes =
    in_view (head_at bytes)
    >>= λ head. in_view (all_known_at head.0.sites head.1)
    >>= λ known. in_view (number_within (total known.0) 0 known.1)
    >>= λ count. objects_at count.0 None count.1
    >>= λ objects. in_view (number_within (total known.0) (length objects.0) objects.1)
    >>= λ left. all_kept_at known.0 left.0 None left.1
    >>= λ kept. Ok (
      record { session = head.0.session; site = head.0.site; known = known.0; objects = objects.0; kept = kept.0 },
      kept.1,
    )

-- ---- the bytes as a function of the snapshot

abbrev pub head_bytes : Snapshot → List ℕ
head_bytes s = word_bytes snapshot_magic ++ 3 ∷ [] ++ word_bytes s.session ++ s.site ∷ [] ++ length s.known ∷ []

abbrev pub known_bytes : Known → List ℕ
known_bytes k = bytes_high_first 2 k.count ++ bytes_high_first 6 k.sure

abbrev pub placed_bytes : Placed → List ℕ
placed_bytes p = stamp_bytes p.0 ++ object_bytes p.1

-- one behind the other
unfoldable pub snapshot_bytes : Snapshot → List ℕ
snapshot_bytes s =
    head_bytes s ++ each_bytes known_bytes s.known ++ word_bytes (length s.objects) ++ each_bytes placed_bytes s.objects
    ++ word_bytes (length s.kept) ++ each_bytes spelling s.kept

-- the same in pieces: all in front of the objects, each object, the number of kept events, and each of these
abbrev pub front_bytes : Snapshot → List ℕ
front_bytes s = head_bytes s ++ each_bytes known_bytes s.known ++ word_bytes (length s.objects)

abbrev pub snapshot_pieces : Snapshot → List (List ℕ)
snapshot_pieces s =
    front_bytes s ∷ map placed_bytes s.objects ++ word_bytes (length s.kept) ∷ map spelling s.kept
