-- Worked rows of rehearsals: what is typed, line by line, and what is printed of each line.
use Prim.Native.String.{String}
use Rattle.std.specs.Prelude.{ℕ, List, [], ◌∷◌, ◌++◌, flat_map, replicate, codes}
use Rattle.std.specs.List.{concat}
use Rattle.gd_base.specs.Notes.{no_note}
use Rattle.gd_effects.specs.Effects.{Effect, Print, Work, cost, printed}
use Rattle.gd_grammar.specs.FrameBytes.{Frame}
use Rattle.gd_lines.specs.ScriptLines.{read_script}
use Rattle.gd_reference.specs.InputLines.{heard, lf, lines_of}
use Rattle.gd_worlds.specs.Rehearsal.{HeardScript, rehearsal_effects, rehearsal_lines}

-- a line, or some, and what is printed of it
pub record Row : Type 0 where
  pub asked : List ℕ
  pub said : List ℕ

abbrev pub with_lf : String → List ℕ
with_lf line = codes line ++ lf ∷ []

abbrev pub row : String → String → Row
row asked said = record { asked = with_lf asked; said = with_lf said }

-- the same with the lines that are printed as a list
abbrev pub row_of : String → List String → Row
row_of asked lines = record { asked = with_lf asked; said = flat_map with_lf lines }

abbrev pub typed : List Row → List ℕ
typed rows = flat_map (λ r. r.asked) rows

abbrev pub answers : List Row → List ℕ
answers rows = flat_map (λ r. r.said) rows

-- what so many sites do over this input, what they print of these rows, and what that costs
abbrev pub rehearsed : ℕ → List ℕ → List Effect
rehearsed sites input = rehearsal_effects sites (rehearsal_lines input)

abbrev pub prints : ℕ → List Row → List ℕ
prints sites rows = printed (rehearsed sites (typed rows))

abbrev pub costs : ℕ → List Row → ℕ
costs sites rows = cost (rehearsed sites (typed rows))

-- ---- two sites

-- a late move that a later one covers
abbrev pub covered : List Row
covered =
    row "at 1 create rect 0 0 10 10" "ok 1.1"
    ∷ row "send 1 2" "mail 1"
    ∷ row "deliver 1" "echo 1.1 applied create rect 0 0 10 10\ndelivered 1"
    ∷ row "at 1 move 1.1 50 50" "ok 2.1"
    ∷ row "at 1 move 1.1 60 60" "ok 3.1"
    ∷ row "at 2 move 1.1 90 90" "ok 2.2"
    ∷ row "send 2 1" "mail 2"
    ∷ row "deliver 2" "echo 2.2 dropped by 3.1 move 1.1 90 90\ndelivered 2"
    ∷ row_of "at 1 show"
    ("rect 1.1 in - at 60 60 size 10 10 stroke 000000 fill none width 1"
    ∷ "end 1"
    ∷ [])
    ∷ row "at 1 status" "held 4 kept 1 line 2 clock 3"
    ∷ []

-- a raise and a lower of one object at once: it lies at the bottom of both sites
abbrev pub bottom : List String
bottom =
    "rect 1.1 in - at 0 0 size 10 10 stroke 000000 fill none width 1"
    ∷ "ellipse 2.1 in - at 0 0 size 20 20 stroke 000000 fill none width 1"
    ∷ "end 2"
    ∷ []

abbrev pub lowered : List Row
lowered =
    row "at 1 create rect 0 0 10 10" "ok 1.1"
    ∷ row "at 1 create ellipse 0 0 20 20" "ok 2.1"
    ∷ row "send 1 2" "mail 1"
    ∷ row "deliver 1" "echo 1.1 applied create rect 0 0 10 10\necho 2.1 applied create ellipse 0 0 20 20\ndelivered 1"
    ∷ row "at 1 raise 1.1" "ok 3.1"
    ∷ row "at 2 lower 1.1" "ok 3.2"
    ∷ row "send 1 2" "mail 2"
    ∷ row "deliver 2" "echo 3.1 dropped by 3.2 raise 1.1\ndelivered 2"
    ∷ row "send 2 1" "mail 3"
    ∷ row "deliver 3" "echo 3.2 applied lower 1.1\ndelivered 3"
    ∷ row_of "at 1 show" bottom
    ∷ row_of "at 2 show" bottom
    ∷ []

-- two groups at once, of which one takes a member from the other: its move depends on it too, and all is redone
abbrev pub reworked : List Row
reworked =
    row "at 1 create rect 0 0 10 10" "ok 1.1"
    ∷ row "at 1 create rect 20 0 10 10" "ok 2.1"
    ∷ row "at 2 create rect 40 0 10 10" "ok 1.2"
    ∷ row "send 1 2" "mail 1"
    ∷ row "deliver 1" "echo 1.1 applied create rect 0 0 10 10\necho 2.1 applied create rect 20 0 10 10\ndelivered 1"
    ∷ row "at 2 group 2.1 1.2" "ok 3.2"
    ∷ row "at 1 raise 1.1" "ok 3.1"
    ∷ row "at 1 group 1.1 2.1" "ok 4.1"
    ∷ row "at 1 move 4.1 5 5" "ok 5.1"
    ∷ row "send 2 1" "mail 2"
    ∷ row "deliver 2" "echo 1.2 applied create rect 40 0 10 10\necho 3.2 reworked 2 group 1.2 0 0 2.1 0 0\ndelivered 2"
    ∷ []

-- the same as effects: the steps of a line come before what is printed of it, and nothing is recorded or tried
abbrev pub reworked_effects : List Effect
reworked_effects =
    Work 1 ∷ Print (codes "ok 1.1\n")
    ∷ Work 1 ∷ Print (codes "ok 2.1\n")
    ∷ Work 1 ∷ Print (codes "ok 1.2\n")
    ∷ Print (codes "mail 1\n")
    ∷ Work 1 ∷ Work 1
    ∷ Print (codes "echo 1.1 applied create rect 0 0 10 10\n")
    ∷ Print (codes "echo 2.1 applied create rect 20 0 10 10\n")
    ∷ Print (codes "delivered 1\n")
    ∷ Work 1 ∷ Print (codes "ok 3.2\n")
    ∷ Work 1 ∷ Print (codes "ok 3.1\n")
    ∷ Work 1 ∷ Print (codes "ok 4.1\n")
    ∷ Work 1 ∷ Print (codes "ok 5.1\n")
    ∷ Print (codes "mail 2\n")
    ∷ Work 1 ∷ Work 5
    ∷ Print (codes "echo 1.2 applied create rect 40 0 10 10\n")
    ∷ Print (codes "echo 3.2 reworked 2 group 1.2 0 0 2.1 0 0\n")
    ∷ Print (codes "delivered 2\n")
    ∷ []

abbrev pub reworked_shown : List Row
reworked_shown =
    reworked
    ++ row_of "at 1 show"
    ("group 3.2 in - at 0 0"
    ∷ "rect 1.2 in 3.2 at 40 0 size 10 10 stroke 000000 fill none width 1"
    ∷ "group 4.1 in - at 5 5"
    ∷ "rect 2.1 in 4.1 at 25 5 size 10 10 stroke 000000 fill none width 1"
    ∷ "rect 1.1 in 4.1 at 5 5 size 10 10 stroke 000000 fill none width 1"
    ∷ "end 5"
    ∷ [])
    ∷ []

-- two sites group the same objects anew, which moves nothing; mail 2 has three events more, which are repeats
abbrev pub regrouped_text : List String
regrouped_text =
    "group 5.1 in - at 0 0"
    ∷ "group 5.2 in - at 0 0"
    ∷ "rect 1.1 in 5.2 at 5 7 size 10 10 stroke 000000 fill none width 1"
    ∷ "rect 2.1 in 5.2 at 25 7 size 10 10 stroke 000000 fill none width 1"
    ∷ "end 4"
    ∷ []

abbrev pub regrouped : List Row
regrouped =
    row "at 1 create rect 0 0 10 10" "ok 1.1"
    ∷ row "at 1 create rect 20 0 10 10" "ok 2.1"
    ∷ row "at 1 group 1.1 2.1" "ok 3.1"
    ∷ row "send 1 2" "mail 1"
    ∷ row "deliver 1" "echo 1.1 applied create rect 0 0 10 10\necho 2.1 applied create rect 20 0 10 10\necho 3.1 applied group 1.1 0 0 2.1 0 0\ndelivered 1"
    ∷ row "at 1 move 3.1 5 7" "ok 4.1"
    ∷ row "at 2 ungroup 3.1" "ok 4.2"
    ∷ row "send 1 2" "mail 2"
    ∷ row "deliver 2" "echo 4.1 applied move 3.1 5 7\ndelivered 2"
    ∷ row "send 2 1" "mail 3"
    ∷ row "deliver 3" "echo 4.2 applied ungroup 3.1\ndelivered 3"
    ∷ row "at 1 group 1.1 2.1" "ok 5.1"
    ∷ row "at 2 group 1.1 2.1" "ok 5.2"
    ∷ row "send 1 2" "mail 4"
    ∷ row "deliver 4" "echo 5.1 reworked 1 group 1.1 5 7 2.1 5 7\ndelivered 4"
    ∷ row "send 2 1" "mail 5"
    ∷ row "deliver 5" "echo 5.2 applied group 1.1 5 7 2.1 5 7\ndelivered 5"
    ∷ row_of "at 1 show" regrouped_text
    ∷ row_of "at 2 show" regrouped_text
    ∷ []

-- ---- a site alone

-- what is in a deleted group is hidden
abbrev pub hidden : List Row
hidden =
    row "at 1 create rect 0 0 10 10" "ok 1.1"
    ∷ row "at 1 create rect 20 0 10 10" "ok 2.1"
    ∷ row "at 1 group 1.1 2.1" "ok 3.1"
    ∷ row "at 1 delete 3.1" "ok 4.1"
    ∷ row "at 1 move 1.1 5 5" "refused: NoObject"
    ∷ row "at 1 show" "end 0"
    ∷ row "at 1 status" "held 4 kept 0 line 4 clock 4"
    ∷ []

-- the first refusal that applies
abbrev pub group_of_33 : Row
group_of_33 =
    record {
      asked = codes "at 1 group" ++ concat (replicate 33 (codes " 3.1"))
          ++ lf ∷ [];
      said = codes "refused: WrongCount\n";
    }

abbrev pub refused_in_order : List Row
refused_in_order =
    row "at 1 create rect 0 0 10 10" "ok 1.1"
    ∷ row "at 1 create rect 0 0 10 10" "ok 2.1"
    ∷ row "at 1 create rect 0 0 10 10" "ok 3.1"
    ∷ row "at 1 group 1.1 2.1" "ok 4.1"
    ∷ row "at 1 group 1.1 3.1" "refused: NotTop"
    ∷ row "at 1 group 3.1 3.1" "refused: SameMember"
    ∷ row "at 1 group 3.1 1.1 1.1" "refused: SameMember"
    ∷ row "at 1 group 9.1 9.1" "refused: NoObject"
    ∷ group_of_33
    ∷ row "at 1 resize 4.1 1 1" "refused: NotShape"
    ∷ row "at 1 ungroup 1.1" "refused: NotGroup"
    ∷ row "at 1 paint" "refused: UnknownCommand"
    ∷ row "at 1 raise 3.1" "ok 5.1"
    ∷ []

-- a member that is shown behind the range can be moved back into it, and an undo shows it there again
abbrev pub too_far : List Row
too_far =
    row "at 1 create rect 0 0 10 10" "ok 1.1"
    ∷ row "at 1 create rect 20 0 10 10" "ok 2.1"
    ∷ row "at 1 group 1.1 2.1" "ok 3.1"
    ∷ row "at 1 move 3.1 1000000000 0" "ok 4.1"
    ∷ row "at 1 move 1.1 -1000000000 0" "refused: TooFar"
    ∷ row "at 1 move 1.1 5 5" "ok 5.1"
    ∷ row_of "at 1 show"
    ("group 3.1 in - at 1000000000 0"
    ∷ "rect 1.1 in 3.1 at 5 5 size 10 10 stroke 000000 fill none width 1"
    ∷ "rect 2.1 in 3.1 at 1000000020 0 size 10 10 stroke 000000 fill none width 1"
    ∷ "end 3"
    ∷ [])
    ∷ row "at 1 move 2.1 5 5" "ok 6.1"
    ∷ row "at 1 undo" "ok 7.1\nend 1"
    ∷ row_of "at 1 show"
    ("group 3.1 in - at 1000000000 0"
    ∷ "rect 1.1 in 3.1 at 5 5 size 10 10 stroke 000000 fill none width 1"
    ∷ "rect 2.1 in 3.1 at 1000000020 0 size 10 10 stroke 000000 fill none width 1"
    ∷ "end 3"
    ∷ [])
    ∷ row "at 1 redo" "ok 8.1\nend 1"
    ∷ row_of "at 1 show"
    ("group 3.1 in - at 1000000000 0"
    ∷ "rect 1.1 in 3.1 at 5 5 size 10 10 stroke 000000 fill none width 1"
    ∷ "rect 2.1 in 3.1 at 5 5 size 10 10 stroke 000000 fill none width 1"
    ∷ "end 3"
    ∷ [])
    ∷ []

abbrev pub taken_back : List Row
taken_back =
    row "at 1 create rect 0 0 10 10" "ok 1.1"
    ∷ row "at 1 move 1.1 50 60" "ok 2.1"
    ∷ row "at 1 undo" "ok 3.1\nend 1"
    ∷ row "at 1 undo" "ok 4.1\nend 1"
    ∷ row "at 1 undo" "refused: NothingBack"
    ∷ row "at 1 show" "end 0"
    ∷ row "at 1 redo" "ok 5.1\nend 1"
    ∷ row "at 1 redo" "ok 6.1\nend 1"
    ∷ row "at 1 redo" "refused: NothingBack"
    ∷ row_of "at 1 show"
    ("rect 1.1 in - at 50 60 size 10 10 stroke 000000 fill none width 1"
    ∷ "end 1"
    ∷ [])
    ∷ []

-- Site 1 deletes a rect and takes that back, and a move of site 2 comes late: by its stamp it stands between the two,
-- and finds nothing. Site 2 takes its move back where the rect stands at 0 0 already, and a redo leaves it there.
abbrev pub put_back : List String
put_back = "rect 1.1 in - at 0 0 size 10 10 stroke 000000 fill none width 1" ∷ "end 1" ∷ []

abbrev pub taken_between : List Row
taken_between =
    row "at 1 create rect 0 0 10 10" "ok 1.1"
    ∷ row "send 1 2" "mail 1"
    ∷ row "deliver 1" "echo 1.1 applied create rect 0 0 10 10\ndelivered 1"
    ∷ row "at 1 delete 1.1" "ok 2.1"
    ∷ row "at 2 move 1.1 50 60" "ok 2.2"
    ∷ row "at 1 undo" "ok 3.1\nend 1"
    ∷ row "send 2 1" "mail 2"
    ∷ row "deliver 2" "echo 2.2 reworked 1 move 1.1 50 60\ndelivered 2"
    ∷ row "send 1 2" "mail 3"
    ∷ row "deliver 3" "echo 2.1 reworked 1 delete 1.1\necho 3.1 applied restore 1.1 rect 0 0 10 10 000000 none 1 in - high 1.1\ndelivered 3"
    ∷ row_of "at 1 show" put_back
    ∷ row_of "at 2 show" put_back
    ∷ row "at 2 undo" "ok 4.2\nend 1"
    ∷ row "at 2 redo" "ok 5.2\nend 1"
    ∷ row_of "at 2 show" put_back
    ∷ row "at 2 redo" "refused: NothingBack"
    ∷ []

-- ---- three sites

abbrev pub settled : List String
settled =
    "ellipse 2.1 in - at 300 0 size 80 80 stroke 0000FF fill none width 1 text End"
    ∷ "group 4.2 in - at 10 10"
    ∷ "text 1.2 in 4.2 at 60 130 size 40 10 stroke 000000 fill none width 1 text Draft"
    ∷ "end 3"
    ∷ []

-- each edits alone, and then all mail comes, but for mail 3, for which later ones stand in
abbrev pub used : List Row
used =
    row "at 1 create rect 0 0 100 50 Start" "ok 1.1"
    ∷ row "at 1 create ellipse 200 0 80 80 End" "ok 2.1"
    ∷ row "at 2 create text 50 120 40 10 Draft" "ok 1.2"
    ∷ row "send 1 2\nsend 1 3\nsend 2 3" "mail 1\nmail 2\nmail 3"
    ∷ row "deliver 1" "echo 1.1 applied create rect 0 0 100 50 Start\necho 2.1 applied create ellipse 200 0 80 80 End\ndelivered 1"
    ∷ row "deliver 2" "echo 1.1 applied create rect 0 0 100 50 Start\necho 2.1 applied create ellipse 200 0 80 80 End\ndelivered 2"
    ∷ row "deliver 2" "delivered 2"
    ∷ row "at 3 move 2.1 300 0" "ok 3.3"
    ∷ row "at 2 fill 1.1 FFCC00" "ok 3.2"
    ∷ row "at 1 move 2.1 200 40" "ok 3.1"
    ∷ row "at 2 group 1.1 1.2" "ok 4.2"
    ∷ row "at 3 delete 1.1" "ok 4.3"
    ∷ row "at 1 text 1.1 Begin" "ok 4.1"
    ∷ row "at 1 raise 1.1" "ok 5.1"
    ∷ row "at 3 stroke 2.1 0000ff" "ok 5.3"
    ∷ row "at 2 move 4.2 10 10" "ok 5.2"
    ∷ row "send 3 1" "mail 4"
    ∷ row "deliver 4" "echo 3.3 applied move 2.1 300 0\necho 4.3 reworked 1 delete 1.1\necho 5.3 applied stroke 2.1 0000FF\ndelivered 4"
    ∷ row "send 2 1" "mail 5"
    ∷ row "deliver 5" "echo 1.2 applied create text 50 120 40 10 Draft\necho 3.2 dropped by 4.3 fill 1.1 FFCC00\necho 4.2 reworked 2 group 1.1 0 0 1.2 0 0\necho 5.2 applied move 4.2 10 10\ndelivered 5"
    ∷ row "send 1 2" "mail 6"
    ∷ row "deliver 6" "echo 3.1 applied move 2.1 200 40\necho 4.1 applied text 1.1 Begin\necho 5.1 applied raise 1.1\ndelivered 6"
    ∷ row "send 3 2" "mail 7"
    ∷ row "deliver 7" "echo 3.3 applied move 2.1 300 0\necho 4.3 reworked 1 delete 1.1\necho 5.3 applied stroke 2.1 0000FF\ndelivered 7"
    ∷ row "send 2 3" "mail 8"
    ∷ row "deliver 8" "echo 1.2 applied create text 50 120 40 10 Draft\necho 3.2 dropped by 4.3 fill 1.1 FFCC00\necho 4.2 reworked 1 group 1.1 0 0 1.2 0 0\necho 5.2 applied move 4.2 10 10\ndelivered 8"
    ∷ row "send 1 3" "mail 9"
    ∷ row "deliver 9" "echo 3.1 dropped by 3.3 move 2.1 200 40\necho 4.1 dropped by 4.3 text 1.1 Begin\necho 5.1 applied raise 1.1\ndelivered 9"
    ∷ row "at 1 status\nat 2 status\nat 3 status"
    "held 12 kept 0 line 5 clock 5\nheld 12 kept 0 line 5 clock 5\nheld 12 kept 0 line 5 clock 5"
    ∷ row_of "at 1 show" settled
    ∷ row_of "at 2 show" settled
    ∷ row_of "at 3 show" settled
    ∷ []

-- ---- the network

-- what a world refuses, behind all faults of the line; a refused send is no mail
abbrev pub refused_in_world : List Row
refused_in_world =
    row "send 1 1" "refused: NoSite"
    ∷ row "send 3 1" "refused: NoSite"
    ∷ row "send 1 3" "refused: NoSite"
    ∷ row "at 3 show" "refused: NoSite"
    ∷ row "at 3 create rect 0 0 10 10" "refused: NoSite"
    ∷ row "deliver 1" "refused: NoMail"
    ∷ row "at 1 poll" "refused: UnknownCommand"
    ∷ row "at 1 begin" "refused: UnknownCommand"
    ∷ row "at 1 end" "refused: UnknownCommand"
    ∷ row "at 3 paint" "refused: UnknownCommand"
    ∷ row "send 1 17" "refused: BadNumber"
    ∷ row "at 1 create rect 0 0 10 10" "ok 1.1"
    ∷ row "send 1 2" "mail 1"
    ∷ row "deliver 0" "refused: NoMail"
    ∷ row "deliver -0" "refused: NoMail"
    ∷ row "deliver 2" "refused: NoMail"
    ∷ row "deliver -1" "refused: BadNumber"
    ∷ row "at 2 status" "held 0 kept 0 line 0 clock 0"
    ∷ []

-- mail that comes twice, and late: a frame of one event, and a later one of both
abbrev pub delivered_late : List Row
delivered_late =
    row "at 1 create rect 0 0 10 10" "ok 1.1"
    ∷ row "send 1 2" "mail 1"
    ∷ row "at 1 move 1.1 5 5" "ok 2.1"
    ∷ row "send 1 2" "mail 2"
    ∷ row "deliver 2" "echo 1.1 applied create rect 0 0 10 10\necho 2.1 applied move 1.1 5 5\ndelivered 2"
    ∷ row "deliver 1" "delivered 1"
    ∷ row "deliver 2" "delivered 2"
    ∷ row "at 2 status" "held 2 kept 0 line 2 clock 2"
    ∷ []

-- the first frame of a rehearsal, where nothing was done before it: it is of session 1
abbrev pub empty_frame : Frame
empty_frame =
    record {
      head = record { session = 1; from = 1; to = 2; ack = 0; count = 0; clock = 0; check = 0 };
      note = no_note;
      events = [];
    }

-- a note goes with the frame that is sent behind it, and every command but `poll` and `quit` can be asked for
abbrev pub noted : List Row
noted =
    row "at 1 name Ada" "noted 1"
    ∷ row "send 1 2" "mail 1"
    ∷ row "at 1 focus 9.2" "noted 2"
    ∷ row "at 1 who" "who 1 Ada focus 9.2\nend 1"
    ∷ row "at 2 who" "end 0"
    ∷ row "deliver 1" "delivered 1"
    ∷ row "at 2 name Bob" "noted 1"
    ∷ row "at 2 who" "who 1 Ada focus -\nwho 2 Bob focus -\nend 2"
    ∷ []

-- ---- the end

-- what is heard of an input where there may be so many lines
abbrev pub heard_of : ℕ → List ℕ → List HeardScript
heard_of most input = heard read_script most (lines_of input)

-- `quit` ends a run, with spaces and a CR too, and `quit` with a word behind it doesn't
abbrev pub quitting : List ℕ
quitting = codes "quit now\n\nat 1 status\n  quit " ++ 13 ∷ codes "\nat 1 show\nx"

abbrev pub quitting_printed : List ℕ
quitting_printed = codes "refused: WrongCount\nheld 0 kept 0 line 0 clock 0\n"

-- as many blank lines as a rehearsal may have, and more
abbrev pub behind_blanks : List ℕ → List ℕ
behind_blanks rest = replicate 100000 lf ++ rest
