-- The run of a viewer: a snapshot, and items behind it.
--
-- An item is a length of two bytes and that many bytes, a frame; it begins only where a byte stands. The first item
-- that is longer than any frame, or that isn't whole, or that is one too many, is the last one. Each frame is taken,
-- and what came of it is printed; behind the last item the drawing is. A fault is printed in place of the drawing, with
-- its place in all bytes.
use Rattle.std.specs.Prelude.{ℕ, zero, suc, nat_lt, if◌then◌else◌, List, [], ◌∷◌, ◌++◌, map, Result, Ok, Err}
use Rattle.gd_base.specs.Results.{◌>>=◌}
use Rattle.gd_base.specs.declared.fault.ViewWhy.TheVariants.{Long}
use Rattle.gd_effects.specs.Effects.{Effect, Print, Work}
use Rattle.gd_grammar.specs.FrameBytes.{Frame, Misread, frame}
use Rattle.gd_grammar.specs.Fields.{half_at}
use Rattle.gd_grammar.specs.Reading.{bytes_at, place}
use Rattle.gd_grammar.specs.declared.sizes.TheConstants.{FRAME_BYTES}
use Rattle.gd_lines.specs.declared.reply.Reply.TheVariants as reply
use Rattle.gd_model.specs.Arrivals.{costs}
use Rattle.gd_outside.specs.declared.status.Status.{Status}
use Rattle.gd_outside.specs.declared.status.Status.TheVariants as status
use Rattle.gd_reference.specs.DrawingText.{text}
use Rattle.gd_reference.specs.Said.{says}
use Rattle.gd_snapshots.specs.SnapshotBytes.{SnapshotMisread, Views, in_view, misread_at, snapshot_at}
use Rattle.gd_snapshots.specs.Snapshots.{Snapshot}
use Rattle.gd_viewing.specs.SlowViewer.{SlowViewer, opened, viewed, viewer_taken}
use Rattle.gd_viewing.specs.ViewerEffects.{of_viewer_frame}

-- ---- items

-- a datagram; or a fault; or one item too many
pub data Item : Type 0 where
  Datagram : List ℕ → Item
  Broken : SnapshotMisread → Item
  TooMany : Item

abbrev pub most_items : ℕ
most_items = 1000000

-- the bytes of the first item
unfoldable pub item_at : List ℕ → Views (List ℕ)
item_at bytes =
    in_view (half_at bytes)
    >>= λ len. if nat_lt FRAME_BYTES len.0 then Err (misread_at Long bytes) else in_view (bytes_at len.0 len.1)

-- the items of these bytes, of which there may be at most so many
unfoldable pub items_of : ℕ → List ℕ → List Item
items_of most [] = []
items_of zero (b ∷ bytes) = TooMany ∷ []
items_of (suc most) (b ∷ bytes) = elim (item_at (b ∷ bytes)) [
  | Ok x ↦ Datagram x.0 ∷ items_of most x.1
  | Err fault ↦ Broken fault ∷ []
]

-- ---- a datagram

abbrev pub after_item_read : SlowViewer → Result Frame Misread → SlowViewer
after_item_read v (Ok f) = viewer_taken v f
after_item_read v (Err fault) = v

abbrev pub after_item : SlowViewer → List ℕ → SlowViewer
after_item v bytes = after_item_read v (frame bytes)

abbrev pub of_item_read : SlowViewer → List ℕ → Result Frame Misread → List Effect
of_item_read v bytes (Ok f) = of_viewer_frame v f
of_item_read v bytes (Err fault) =
    says (reply.BadFrame (record { at = place bytes fault.left; why = fault.why })) ∷ []

abbrev pub of_item : SlowViewer → List ℕ → List Effect
of_item v bytes = of_item_read v bytes (frame bytes)

-- ---- the run

abbrev pub bad_view : List ℕ → SnapshotMisread → List Effect
bad_view all fault = says (reply.BadView (place all fault.left) fault.why) ∷ []

-- the frames of the items, in turn; then the drawing, or a fault of all bytes
unfoldable pub shown_behind : List ℕ → SlowViewer → List Item → List Effect
shown_behind all v [] = map Print (text (viewed v))
shown_behind all v (Datagram bytes ∷ items) = of_item v bytes ++ shown_behind all (after_item v bytes) items
shown_behind all v (Broken fault ∷ items) = bad_view all fault
shown_behind all v (TooMany ∷ items) = says reply.LineLimit ∷ []

unfoldable pub end_behind : List Item → Status
end_behind [] = status.Done
end_behind (Datagram bytes ∷ items) = end_behind items
end_behind (Broken fault ∷ items) = status.BadView
end_behind (TooMany ∷ items) = status.LineLimit

abbrev pub view_as : List ℕ → Result (Snapshot × List ℕ) SnapshotMisread → List Effect
view_as all (Ok x) = map Work (costs x.0.kept) ++ shown_behind all (opened x.0) (items_of most_items x.1)
view_as all (Err fault) = bad_view all fault

abbrev pub view_end_as : Result (Snapshot × List ℕ) SnapshotMisread → Status
view_end_as (Ok x) = end_behind (items_of most_items x.1)
view_end_as (Err fault) = status.BadView

-- what `view` does with these bytes, and how it ends
abbrev pub view_effects : List ℕ → List Effect
view_effects bytes = view_as bytes (snapshot_at bytes)

abbrev pub view_end : List ℕ → Status
view_end bytes = view_end_as (snapshot_at bytes)

-- ---- where a read fails

-- the frames of the whole items
unfoldable pub whole_behind : SlowViewer → List Item → List Effect
whole_behind v [] = []
whole_behind v (Datagram bytes ∷ items) = of_item v bytes ++ whole_behind (after_item v bytes) items
whole_behind v (Broken fault ∷ items) = []
whole_behind v (TooMany ∷ items) = []

abbrev pub view_cut_as : Result (Snapshot × List ℕ) SnapshotMisread → List Effect
view_cut_as (Ok x) = map Work (costs x.0.kept) ++ whole_behind (opened x.0) (items_of most_items x.1)
view_cut_as (Err fault) = []

-- what it has done by then, where these bytes were taken
abbrev pub view_cut : List ℕ → List Effect
view_cut taken = view_cut_as (snapshot_at taken)
