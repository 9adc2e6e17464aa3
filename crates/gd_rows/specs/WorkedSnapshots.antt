-- Worked rows of snapshots, byte by byte.
use Rattle.std.specs.Prelude.{◌≡◌, ℕ, zero, suc, ◌+◌, ◌-◌, pos, negsuc, true, false, List, [], ◌∷◌, ◌++◌, length, set}
use Rattle.std.specs.Prelude.{take, None, Some, Err, IsOk}
use Rattle.std.specs.List.{AllByRecursion}
use Rattle.gd_base.specs.declared.content.Content.TheVariants.{ToPlace, ToRank}
use Rattle.gd_base.specs.declared.content.Height.TheVariants.{To}
use Rattle.gd_base.specs.declared.content.Side.TheVariants.{Top}
use Rattle.gd_base.specs.declared.fault.ViewWhy.{ViewWhy}
use Rattle.gd_base.specs.declared.fault.ViewWhy.TheVariants.{Short, Magic, Version, Field, FutureId, Order, Bound}
use Rattle.gd_base.specs.declared.look.Align.TheVariants.{End}
use Rattle.gd_base.specs.declared.look.Dash.TheVariants.{Dashed}
use Rattle.gd_base.specs.declared.look.Heads.TheVariants.{AtBoth}
use Rattle.gd_base.specs.declared.op.Op.TheVariants.{Set}
use Rattle.gd_base.specs.declared.shape.Shape.TheVariants.{Rect, Ellipse, Text}
use Rattle.gd_base.specs.declared.object.Kind.TheVariants.{Shape}
use Rattle.gd_base.specs.Whole.{Object}
use Rattle.gd_base.specs.declared.rank.Rank.TheVariants.{Low}
use Rattle.gd_model.specs.Objects.{new_group, new_shape}
use Rattle.gd_snapshots.specs.SnapshotBytes.{snapshot_at}
use Rattle.gd_snapshots.specs.Snapshots.{Snapshot}
use Rattle.gd_rows.specs.Worked.{at_stamp, event}

-- ---- a snapshot without kept events

-- session 7, site 1 of 2; each site made one event, and has the sure clock 1
abbrev pub tie_front : List ℕ
tie_front =
    71 ∷ 68 ∷ 79 ∷ 83 ∷ 3 ∷ 0 ∷ 0 ∷ 0 ∷ 7 ∷ 1 ∷ 2 ∷ 0 ∷ 1 ∷ 0 ∷ 0 ∷ 0 ∷ 0 ∷ 0 ∷ 1 ∷ 0 ∷ 1 ∷ 0 ∷ 0 ∷ 0 ∷ 0 ∷ 0 ∷ 1 ∷ []

-- the ellipse of site 1 and the rect of site 2, of which the first begins at byte 31 and the second at byte 86
abbrev pub ellipse_bytes : List ℕ
ellipse_bytes =
    0 ∷ 0 ∷ 0 ∷ 0 ∷ 0 ∷ 1 ∷ 1 ∷ 2 ∷ 0 ∷ 0 ∷ 0 ∷ 0 ∷ 0 ∷ 0 ∷ 0 ∷ 0 ∷ 0 ∷ 0 ∷ 0 ∷ 20 ∷ 0 ∷ 0 ∷ 0 ∷ 20 ∷ 0 ∷ 0 ∷ 0 ∷ 0
    ∷ 255 ∷ 255 ∷ 255 ∷ 255 ∷ 1 ∷ 0 ∷ 0 ∷ 255 ∷ 255 ∷ 255 ∷ 255 ∷ 100 ∷ 0 ∷ 0 ∷ 0 ∷ 0 ∷ 0 ∷ 0 ∷ 0 ∷ 1 ∷ 0 ∷ 0 ∷ 0 ∷ 0
    ∷ 0 ∷ 1 ∷ 1 ∷ []

abbrev pub rect_bytes : List ℕ
rect_bytes =
    0 ∷ 0 ∷ 0 ∷ 0 ∷ 0 ∷ 1 ∷ 2 ∷ 1 ∷ 0 ∷ 0 ∷ 0 ∷ 5 ∷ 0 ∷ 0 ∷ 0 ∷ 5 ∷ 0 ∷ 0 ∷ 0 ∷ 10 ∷ 0 ∷ 0 ∷ 0 ∷ 10 ∷ 0 ∷ 0 ∷ 0 ∷ 0
    ∷ 255 ∷ 255 ∷ 255 ∷ 255 ∷ 1 ∷ 0 ∷ 0 ∷ 255 ∷ 255 ∷ 255 ∷ 255 ∷ 100 ∷ 0 ∷ 0 ∷ 0 ∷ 0 ∷ 0 ∷ 0 ∷ 0 ∷ 1 ∷ 0 ∷ 0 ∷ 0 ∷ 0
    ∷ 0 ∷ 1 ∷ 2 ∷ []

abbrev pub tie_snapshot_bytes : List ℕ
tie_snapshot_bytes = tie_front ++ 0 ∷ 0 ∷ 0 ∷ 2 ∷ [] ++ ellipse_bytes ++ rect_bytes ++ 0 ∷ 0 ∷ 0 ∷ 0 ∷ []

abbrev pub tie_snapshot : Snapshot
tie_snapshot =
    record {
      session = 7;
      site = 1;
      known = record { count = 1; sure = 1 } ∷ record { count = 1; sure = 1 } ∷ [];
      objects =
          (at_stamp 1 1, new_shape (at_stamp 1 1) Ellipse (pos 0) (pos 0) (pos 20) (pos 20) [])
          ∷ (at_stamp 1 2, new_shape (at_stamp 1 2) Rect (pos 5) (pos 5) (pos 10) (pos 10) [])
          ∷ [];
      kept = [];
    }

-- ---- one with all that an object has, and with kept events

-- site 2 of 2, which made two events and has the sure clock 4, where site 1 made three and has the sure clock 9
abbrev pub full_front : List ℕ
full_front =
    71 ∷ 68 ∷ 79 ∷ 83 ∷ 3 ∷ 0 ∷ 0 ∷ 0 ∷ 7 ∷ 2 ∷ 2 ∷ 0 ∷ 3 ∷ 0 ∷ 0 ∷ 0 ∷ 0 ∷ 0 ∷ 9 ∷ 0 ∷ 2 ∷ 0 ∷ 0 ∷ 0 ∷ 0 ∷ 0 ∷ 4 ∷ []

-- a text in a group, with a look of its own, and lowered
abbrev pub text_bytes : List ℕ
text_bytes =
    0 ∷ 0 ∷ 0 ∷ 0 ∷ 0 ∷ 1 ∷ 1 ∷ 4 ∷ 255 ∷ 255 ∷ 255 ∷ 255 ∷ 0 ∷ 0 ∷ 0 ∷ 2 ∷ 0 ∷ 0 ∷ 0 ∷ 3 ∷ 0 ∷ 0 ∷ 0 ∷ 4 ∷ 0 ∷ 0 ∷ 0
    ∷ 255
    ∷ 0 ∷ 1 ∷ 2 ∷ 3 ∷ 64 ∷ 1 ∷ 3 ∷ 0 ∷ 0 ∷ 0 ∷ 8 ∷ 50 ∷ 1 ∷ 44 ∷ 3 ∷ 3 ∷ 97 ∷ 32 ∷ 98 ∷ 0 ∷ 1 ∷ 0 ∷ 0 ∷ 0 ∷ 0 ∷ 0 ∷ 3
    ∷ 2
    ∷ 0 ∷ 0 ∷ 0 ∷ 1 ∷ 255 ∷ 255 ∷ 255 ∷ 254 ∷ 0 ∷ 0 ∷ 0 ∷ 0 ∷ 0 ∷ 0 ∷ 0 ∷ 4 ∷ 2 ∷ []

-- the group, dissolved
abbrev pub group_bytes : List ℕ
group_bytes =
    0 ∷ 0 ∷ 0 ∷ 0 ∷ 0 ∷ 3 ∷ 2 ∷ 5 ∷ 0 ∷ 0 ∷ 0 ∷ 0 ∷ 0 ∷ 0 ∷ 0 ∷ 0 ∷ 0 ∷ 0 ∷ 0 ∷ 0 ∷ 0 ∷ 0 ∷ 0 ∷ 0 ∷ 0 ∷ 0 ∷ 0 ∷ 0
    ∷ 255 ∷ 255 ∷ 255 ∷ 255 ∷ 1 ∷ 0 ∷ 0 ∷ 255 ∷ 255 ∷ 255 ∷ 255 ∷ 100 ∷ 0 ∷ 0 ∷ 0 ∷ 0 ∷ 0 ∷ 0 ∷ 1 ∷ 1 ∷ 0 ∷ 0 ∷ 0 ∷ 0
    ∷ 0 ∷ 3 ∷ 2 ∷ []

-- the second and the third event of site 1: a raise and a move of the text
abbrev pub raise_bytes : List ℕ
raise_bytes = 0 ∷ 0 ∷ 0 ∷ 0 ∷ 0 ∷ 5 ∷ 1 ∷ 0 ∷ 2 ∷ 9 ∷ 0 ∷ 0 ∷ 0 ∷ 0 ∷ 0 ∷ 1 ∷ 1 ∷ []

abbrev pub move_bytes : List ℕ
move_bytes =
    0 ∷ 0 ∷ 0 ∷ 0 ∷ 0 ∷ 6 ∷ 1 ∷ 0 ∷ 3 ∷ 3 ∷ 0 ∷ 0 ∷ 0 ∷ 0 ∷ 0 ∷ 1 ∷ 1 ∷ 0 ∷ 0 ∷ 0 ∷ 7 ∷ 255 ∷ 255 ∷ 255 ∷ 248 ∷ []

-- the events begin at the bytes 163 and 180, and the place behind them is 205
abbrev pub full_snapshot_bytes : List ℕ
full_snapshot_bytes =
    full_front ++ 0 ∷ 0 ∷ 0 ∷ 2 ∷ [] ++ text_bytes ++ group_bytes ++ 0 ∷ 0 ∷ 0 ∷ 2 ∷ [] ++ raise_bytes ++ move_bytes

abbrev pub full_text : Object
full_text =
    record {
      kind = Shape Text;
      x = negsuc 0;
      y = pos 2;
      w = pos 3;
      h = pos 4;
      look =
          record {
            stroke = 255;
            fill = Some 66051;
            width = 64;
            dash = Dashed;
            heads = AtBoth;
            round = Some 8;
            opacity = 50;
            letters = Some 300;
            align = Some End;
          };
      label = 97 ∷ 32 ∷ 98 ∷ [];
      ends = None;
      link = Some (record { parent = at_stamp 3 2; dx = pos 1; dy = negsuc 1 });
      dissolved = false;
      rank = Low (at_stamp 4 2);
    }

abbrev pub full_group : Object
full_group = record (new_group (at_stamp 3 2)) { dissolved = true }

abbrev pub full_snapshot : Snapshot
full_snapshot =
    record {
      session = 7;
      site = 2;
      known = record { count = 3; sure = 9 } ∷ record { count = 2; sure = 4 } ∷ [];
      objects = (at_stamp 1 1, full_text) ∷ (at_stamp 3 2, full_group) ∷ [];
      kept =
          event 5 1 2 (Set (at_stamp 1 1) (ToRank (To Top)))
          ∷ event 6 1 3 (Set (at_stamp 1 1) (ToPlace (pos 7) (negsuc 7)))
          ∷ [];
    }

-- ---- changed bytes

-- what these bytes are read as: a snapshot, or a fault at this place
pub data Reading : Type 0 where
  Whole : Reading
  Faulty : ViewWhy → ℕ → Reading

abbrev pub IsRead : List ℕ → Reading → Type 0
IsRead bytes Whole = IsOk (snapshot_at bytes)
IsRead bytes (Faulty why at) = snapshot_at bytes ≡ Err (record { why = why; left = length bytes - at })

-- so many bytes from that place on, each changed by itself to this value
pub record Change : Type 0 where
  pub first : ℕ
  pub count : ℕ
  pub value : ℕ
  pub reading : Reading

abbrev pub change : ℕ → ℕ → ℕ → Reading → Change
change first count value reading = record { first = first; count = count; value = value; reading = reading }

unfoldable pub AllRead : List ℕ → ℕ → ℕ → ℕ → Reading → Type 0
AllRead bytes first zero value reading = Unit {0}
AllRead bytes first (suc count) value reading =
    IsRead (set bytes first value) reading × AllRead bytes (first + 1) count value reading

abbrev pub ChangesRead : List ℕ → List Change → Type 0
ChangesRead bytes changes = AllByRecursion (λ c. AllRead bytes c.first c.count c.value c.reading) changes

-- each byte of the snapshot without kept events
abbrev pub tie_changes : List Change
tie_changes =
    change 0 4 255 (Faulty Magic 0)
    ∷ change 4 1 1 (Faulty Version 4)
    ∷ change 4 1 2 (Faulty Version 4)
    ∷ change 4 1 4 (Faulty Version 4)
    ∷ change 5 4 255 Whole
    ∷ change 9 1 0 (Faulty Field 9)
    ∷ change 9 1 3 (Faulty Field 10)
    ∷ change 10 1 0 (Faulty Field 10)
    ∷ change 10 1 17 (Faulty Field 10)
    -- more events were made, or fewer than there are objects
    ∷ change 11 2 255 Whole
    ∷ change 12 1 0 (Faulty Field 27)
    ∷ change 13 6 255 Whole
    ∷ change 19 2 255 Whole
    ∷ change 20 1 0 (Faulty Field 27)
    ∷ change 21 6 255 Whole
    ∷ change 27 4 255 (Faulty Field 27)
    ∷ change 30 1 3 (Faulty Field 27)
    -- the second id isn't above the first one
    ∷ change 31 6 255 (Faulty Order 86)
    ∷ change 36 1 0 (Faulty Field 31)
    ∷ change 37 1 0 (Faulty Field 37)
    ∷ change 37 1 2 (Faulty Order 86)
    ∷ change 38 1 0 (Faulty Field 38)
    ∷ change 38 1 6 (Faulty Field 75)
    ∷ change 38 1 7 (Faulty Field 38)
    ∷ change 39 8 255 Whole
    ∷ change 39 1 128 (Faulty Field 39)
    ∷ change 43 1 128 (Faulty Field 43)
    ∷ change 47 2 255 (Faulty Field 47)
    ∷ change 49 2 255 Whole
    ∷ change 51 2 255 (Faulty Field 51)
    ∷ change 53 2 255 Whole
    ∷ change 55 1 1 (Faulty Field 55)
    ∷ change 56 3 255 Whole
    ∷ change 59 1 0 Whole
    ∷ change 60 3 0 (Faulty Field 59)
    ∷ change 63 1 0 (Faulty Field 63)
    ∷ change 63 1 65 (Faulty Field 63)
    ∷ change 64 1 2 Whole
    ∷ change 64 1 3 (Faulty Field 64)
    ∷ change 65 1 3 Whole
    ∷ change 65 1 4 (Faulty Field 65)
    -- a radius above the greatest, which isn't the byte for none
    ∷ change 66 4 0 (Faulty Field 66)
    ∷ change 70 1 1 Whole
    ∷ change 70 1 0 (Faulty Field 70)
    ∷ change 70 1 101 (Faulty Field 70)
    ∷ change 71 1 3 Whole
    ∷ change 71 1 4 (Faulty Field 71)
    ∷ change 72 1 255 Whole
    ∷ change 73 1 3 Whole
    ∷ change 73 1 4 (Faulty Field 73)
    -- a label of 201 bytes goes on behind the end, and none is as long; or it would be a byte 0
    ∷ change 74 1 201 (Faulty Short 145)
    ∷ change 74 1 203 (Faulty Field 74)
    ∷ change 74 1 1 (Faulty Field 75)
    -- an end would be of site 0
    ∷ change 75 1 1 (Faulty Field 82)
    ∷ change 75 1 2 (Faulty Field 75)
    -- the group would be of site 0
    ∷ change 76 1 1 (Faulty Field 83)
    ∷ change 76 1 2 (Faulty Field 76)
    ∷ change 77 1 1 Whole
    ∷ change 77 1 2 (Faulty Field 77)
    ∷ change 78 1 0 Whole
    ∷ change 78 1 2 (Faulty Field 78)
    ∷ change 79 6 255 Whole
    ∷ change 84 1 0 (Faulty Field 79)
    ∷ change 85 1 17 (Faulty Field 85)
    ∷ change 86 6 255 Whole
    ∷ change 92 1 1 (Faulty Order 86)
    ∷ change 93 1 5 Whole
    -- a connector without ends
    ∷ change 93 1 6 (Faulty Field 130)
    ∷ change 94 8 255 Whole
    ∷ change 102 2 255 (Faulty Field 102)
    ∷ change 104 2 255 Whole
    ∷ change 106 2 255 (Faulty Field 106)
    ∷ change 108 2 255 Whole
    ∷ change 110 1 1 (Faulty Field 110)
    ∷ change 111 3 255 Whole
    ∷ change 114 1 0 Whole
    ∷ change 115 3 0 (Faulty Field 114)
    ∷ change 118 1 65 (Faulty Field 118)
    ∷ change 129 1 255 (Faulty Field 129)
    ∷ change 131 1 255 (Faulty Field 131)
    ∷ change 132 1 255 (Faulty Field 132)
    ∷ change 133 1 255 (Faulty Field 133)
    ∷ change 134 6 255 Whole
    ∷ change 140 1 0 (Faulty Field 140)
    ∷ change 141 4 1 (Faulty Field 141)
    ∷ []

-- what is kept has to be in order, and within what is known of its site
abbrev pub full_changes : List Change
full_changes =
    -- a third kept event would be one event more than were made
    change 162 1 4 (Faulty Field 159)
    -- the first one at the line, or above its site's sure clock, or of no site, or of another site that didn't make it
    ∷ change 168 1 4 (Faulty Bound 163)
    ∷ change 18 1 5 (Faulty Bound 180)
    ∷ change 169 1 3 (Faulty Bound 163)
    ∷ change 169 1 2 (Faulty Bound 163)
    ∷ change 171 1 4 (Faulty Bound 163)
    -- the same stamp twice, and one that is lower and not above the line either
    ∷ change 185 1 5 (Faulty Order 180)
    ∷ change 185 1 3 (Faulty Order 180)
    -- no tag, an id of no site, and an id behind the event
    ∷ change 189 1 18 (Faulty Field 189)
    ∷ change 179 1 0 (Faulty Field 179)
    ∷ change 178 1 9 (Faulty FutureId 173)
    ∷ []

-- one cut short, of so many bytes
abbrev pub IsShortAt : List ℕ → ℕ → Type 0
IsShortAt bytes at = IsRead (take at bytes) (Faulty Short at)

-- cut to each of so many numbers of bytes, from the first one on
unfoldable pub AllShort : List ℕ → ℕ → ℕ → Type 0
AllShort bytes first zero = Unit {0}
AllShort bytes first (suc count) = IsShortAt bytes (first + count) × AllShort bytes first count
