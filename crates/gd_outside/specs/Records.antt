-- The calls on a journal in memory, and what they made of its contents and of what a crash may leave.
use Rattle.std.specs.Prelude.{ℕ, ◌+◌, Bool, ◌&&◌, ◌==◌, nat_lt, nat_le, if◌then◌else◌, List, [], ◌∷◌, length, fold}
use Rattle.std.specs.Prelude.{sum_by, take, drop, replicate}
use Rattle.gd_outside.specs.Causes.{counted}
use Rattle.gd_outside.specs.Disk.{Any, Kept, Written, Disk, goes_on}
use Rattle.gd_outside.specs.Journals.{put_at}
use Rattle.gd_outside.specs.declared.memory.mark.Kind.{Kind}
use Rattle.gd_outside.specs.declared.memory.mark.Kind.TheVariants.{Created, NotCreated, Put, NotPut, Synced}
use Rattle.gd_outside.specs.declared.memory.mark.Mark.{Mark}

-- a create, a create that failed, a write, a write that failed, or a sync that succeeded
pub record DiskCall : Type 0 where
  pub kind : Kind
  pub pos : ℕ
  pub piece : List ℕ

abbrev pub done : Kind → ℕ → List ℕ → DiskCall
done kind pos piece = record { kind = kind; pos = pos; piece = piece }

-- the contents, and what a crash may leave
pub record State : Type 0 where
  pub contents : List ℕ
  pub disk : Disk

abbrev pub after_kind : Kind → State → ℕ → List ℕ → State
after_kind Created s pos piece = record { contents = []; disk = goes_on s.disk Any }
after_kind NotCreated s pos piece = record s { disk = goes_on s.disk Any }
after_kind Put s pos piece = record {
  contents = put_at s.contents pos piece;
  disk = goes_on s.disk (Written s.disk.now pos piece);
}
after_kind NotPut s pos piece = record s { disk = goes_on s.disk (Written s.disk.now pos piece) }
after_kind Synced s pos piece = record s { disk = goes_on s.disk (Kept s.contents) }

abbrev pub after_call : State → DiskCall → State
after_call s call = after_kind call.kind s call.pos call.piece

-- a journal that nothing was done to has no contents
abbrev pub at_first : State
at_first = record { contents = []; disk = record { now = Kept []; past = [] } }

-- after these calls, one after another
abbrev pub after_calls : List DiskCall → State
after_calls calls = fold after_call at_first calls

abbrev pub contents_of : List DiskCall → List ℕ
contents_of calls = (after_calls calls).contents

abbrev pub disk_of : List DiskCall → Disk
disk_of calls = (after_calls calls).disk

-- ---- the record

abbrev pub pieces_size : List DiskCall → ℕ
pieces_size calls = sum_by (λ call. length call.piece) calls

-- A record in a room has room for one more call, with a piece of that length: the room is for the bytes of all pieces,
-- and there may be three calls more than that. A journal that is made of contents takes three.
abbrev pub fits_record : ℕ → List DiskCall → ℕ → Bool
fits_record room calls more = nat_lt (length calls) (room + 3) && nat_le (pieces_size calls + more) room

-- the calls of marks, whose pieces stand one behind the other
abbrev pub calls_of : List Mark → List ℕ → List DiskCall
calls_of [] pieces = []
calls_of (m ∷ marks) pieces = done m.kind m.pos (take m.len pieces) ∷ calls_of marks (drop m.len pieces)

-- calls, and the room of their record
pub record Recorded : Type 0 where
  pub calls : List DiskCall
  pub room : ℕ

-- ---- one image of a crash

-- how many writes since the last sync that succeeded stand as written, the byte that the ranges of the others hold, the
-- contents, the image, and how many writes there were since that sync
pub record Shot : Type 0 where
  pub whole : ℕ
  pub fill : ℕ
  pub contents : List ℕ
  pub image : List ℕ
  pub count : ℕ

-- the piece is one byte, and goes over one that is there
abbrev pub is_byte_over : List ℕ → ℕ → List ℕ → Bool
is_byte_over image pos piece = length piece == 1 && nat_lt pos (length image)

-- the image with the next write: as it was written, or with one byte alone in its range; but where a byte alone goes
-- over another one, that one stays
abbrev pub landed : Shot → ℕ → List ℕ → List ℕ
landed s pos piece =
    if nat_lt s.count s.whole then put_at s.image pos piece
    else if is_byte_over s.image pos piece then s.image
    else put_at s.image pos (replicate (length piece) s.fill)

-- with that write in the image
abbrev pub with_landed : Shot → ℕ → List ℕ → Shot
with_landed s pos piece = record s { image = landed s pos piece; count = counted s.count }

abbrev pub shot_kind : Kind → Shot → ℕ → List ℕ → Shot
shot_kind Created s pos piece = record s { contents = []; image = [] }
shot_kind NotCreated s pos piece = s
shot_kind Put s pos piece = record (with_landed s pos piece) { contents = put_at s.contents pos piece }
shot_kind NotPut s pos piece = with_landed s pos piece
shot_kind Synced s pos piece = record s { image = s.contents; count = 0 }

abbrev pub shot_after : Shot → DiskCall → Shot
shot_after s call = shot_kind call.kind s call.pos call.piece

abbrev pub first_shot : ℕ → ℕ → Shot
first_shot k fill = record { whole = k; fill = fill; contents = []; image = []; count = 0 }

-- The image of a crash after these calls in which the first k writes since the last sync that succeeded stand as
-- written, and the range of each later one holds one byte alone; but a byte that goes alone over another one isn't
-- there.
abbrev pub image_of : ℕ → ℕ → List DiskCall → List ℕ
image_of k fill calls = (fold shot_after (first_shot k fill) calls).image
