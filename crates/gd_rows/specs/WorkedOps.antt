-- Worked rows of what version three has besides: the operations of undos and redos, byte by byte and as JSON.
use Rattle.std.specs.Prelude.{◌≡◌, ℕ, zero, suc, ◌+◌, ◌-◌, pos, false, List, [], ◌∷◌, ◌++◌, length, map, replicate, set}
use Rattle.std.specs.Prelude.{take, codes, Some, None, Err}
use Rattle.std.specs.List.{AllByRecursion}
use Rattle.gd_base.specs.declared.content.Content.TheVariants.{ToLooks, ToFlag, ToEnds, ToRank}
use Rattle.gd_base.specs.declared.content.Height.TheVariants.{At}
use Rattle.gd_base.specs.declared.fault.FieldFault.{FieldFault}
use Rattle.gd_base.specs.declared.fault.FieldWhy.TheVariants as field
use Rattle.gd_base.specs.declared.fault.LogWhy.{LogWhy}
use Rattle.gd_base.specs.declared.fault.LogWhy.TheVariants.{Short, Field, FutureId, MemberOrder, Check}
use Rattle.gd_base.specs.Looks.{no_looks}
use Rattle.gd_base.specs.declared.look.Align.TheVariants.{End}
use Rattle.gd_base.specs.declared.look.Dash.TheVariants.{Dashed, Dotted}
use Rattle.gd_base.specs.declared.look.Heads.TheVariants.{AtBoth}
use Rattle.gd_base.specs.declared.object.Ends.{Ends}
use Rattle.gd_base.specs.declared.object.Kind.TheVariants.{Group}
use Rattle.gd_base.specs.declared.op.Op.TheVariants.{Set, Connect, Restore, Disband}
use Rattle.gd_base.specs.declared.rank.Rank.TheVariants.{Low, High}
use Rattle.gd_base.specs.declared.ties.Tie.{Tie}
use Rattle.gd_events.specs.Events.{Event}
use Rattle.gd_grammar.specs.Drawings.{log}
use Rattle.gd_rows.specs.Worked.{at_stamp, begun_log, event, fault_at, header_three_bytes}
use Rattle.gd_rows.specs.WorkedSnapshots.{full_group, full_text, group_bytes, text_bytes}

-- an object that is tied to that group, and one that is in none
abbrev pub tied : ℕ → ℕ → ℕ → Tie
tied clock group dy =
    record { id = at_stamp clock 1; link = Some (record { parent = at_stamp group 2; dx = pos 0; dy = pos dy }) }

abbrev pub free : ℕ → Tie
free clock = record { id = at_stamp clock 1; link = None }

-- ---- records, each of site 1, by its clock and its number

-- the text of the worked snapshot as a group, with a link and a low rank, and two ties: its record has 115 bytes
abbrev pub restore_bytes : List ℕ
restore_bytes =
    0 ∷ 0 ∷ 0 ∷ 0 ∷ 0 ∷ 9 ∷ 1 ∷ 0 ∷ 1 ∷ 11 ∷ set text_bytes 7 5
    ++ 2 ∷ 0 ∷ 0 ∷ 0 ∷ 0 ∷ 0 ∷ 2 ∷ 1 ∷ 0
    ∷ 0 ∷ 0 ∷ 0 ∷ 0 ∷ 0 ∷ 5 ∷ 1 ∷ 1 ∷ 0 ∷ 0 ∷ 0 ∷ 0 ∷ 0 ∷ 6 ∷ 2 ∷ 0 ∷ 0 ∷ 0 ∷ 0 ∷ 0 ∷ 0 ∷ 0 ∷ 5 ∷ []

abbrev pub restore_event : Event
restore_event = event 9 1 1 (Restore (at_stamp 1 1) (record full_text { kind = Group }) (free 2 ∷ tied 5 6 5 ∷ []))

-- its dissolved group, without a tie: 66 bytes, the fewest
abbrev pub bare_restore_bytes : List ℕ
bare_restore_bytes = 0 ∷ 0 ∷ 0 ∷ 0 ∷ 0 ∷ 10 ∷ 1 ∷ 0 ∷ 2 ∷ 11 ∷ group_bytes ++ 0 ∷ []

abbrev pub bare_restore_event : Event
bare_restore_event = event 10 1 2 (Restore (at_stamp 3 2) full_group [])

-- 26 bytes, the fewest, and then one with a tie to a group besides
abbrev pub disband_bytes : List ℕ
disband_bytes =
    0 ∷ 0 ∷ 0 ∷ 0 ∷ 0 ∷ 11 ∷ 1 ∷ 0 ∷ 3 ∷ 12 ∷ 0 ∷ 0 ∷ 0 ∷ 0 ∷ 0 ∷ 3 ∷ 2 ∷ 1 ∷ 0 ∷ 0 ∷ 0 ∷ 0 ∷ 0 ∷ 2 ∷ 1 ∷ 0 ∷ []

abbrev pub disband_event : Event
disband_event = event 11 1 3 (Disband (at_stamp 3 2) (free 2 ∷ []))

abbrev pub tied_disband_bytes : List ℕ
tied_disband_bytes =
    0 ∷ 0 ∷ 0 ∷ 0 ∷ 0 ∷ 12 ∷ 1 ∷ 0 ∷ 4 ∷ 12 ∷ 0 ∷ 0 ∷ 0 ∷ 0 ∷ 0 ∷ 8 ∷ 16 ∷ 2
    ∷ 0 ∷ 0 ∷ 0 ∷ 0 ∷ 0 ∷ 2 ∷ 1 ∷ 1 ∷ 0 ∷ 0 ∷ 0 ∷ 0 ∷ 0 ∷ 6 ∷ 2 ∷ 0 ∷ 0 ∷ 0 ∷ 0 ∷ 0 ∷ 0 ∷ 0 ∷ 7
    ∷ 0 ∷ 0 ∷ 0 ∷ 0 ∷ 0 ∷ 5 ∷ 1 ∷ 0 ∷ []

abbrev pub tied_disband_event : Event
tied_disband_event = event 12 1 4 (Disband (at_stamp 8 16) (tied 2 6 7 ∷ free 5 ∷ []))

-- ranks of both sides
abbrev pub low_bytes : List ℕ
low_bytes = 0 ∷ 0 ∷ 0 ∷ 0 ∷ 0 ∷ 13 ∷ 1 ∷ 0 ∷ 5 ∷ 13 ∷ 0 ∷ 0 ∷ 0 ∷ 0 ∷ 0 ∷ 1 ∷ 1 ∷ 0 ∷ 0 ∷ 0 ∷ 0 ∷ 0 ∷ 0 ∷ 4 ∷ 2 ∷ []

abbrev pub low_event : Event
low_event = event 13 1 5 (Set (at_stamp 1 1) (ToRank (At (Low (at_stamp 4 2)))))

abbrev pub high_bytes : List ℕ
high_bytes = 0 ∷ 0 ∷ 0 ∷ 0 ∷ 0 ∷ 14 ∷ 1 ∷ 0 ∷ 6 ∷ 13 ∷ 0 ∷ 0 ∷ 0 ∷ 0 ∷ 0 ∷ 1 ∷ 1 ∷ 1 ∷ 0 ∷ 0 ∷ 0 ∷ 0 ∷ 0 ∷ 13 ∷ 1 ∷ []

abbrev pub high_event : Event
high_event = event 14 1 6 (Set (at_stamp 1 1) (ToRank (At (High (at_stamp 13 1)))))

abbrev pub reopen_bytes : List ℕ
reopen_bytes = 0 ∷ 0 ∷ 0 ∷ 0 ∷ 0 ∷ 15 ∷ 1 ∷ 0 ∷ 7 ∷ 14 ∷ 0 ∷ 0 ∷ 0 ∷ 0 ∷ 0 ∷ 3 ∷ 2 ∷ []

abbrev pub reopen_event : Event
reopen_event = event 15 1 7 (Set (at_stamp 3 2) (ToFlag false))

-- ---- a log of all of them, each with its check behind it

abbrev pub turned_front : List ℕ
turned_front =
    header_three_bytes
    ++ 195 ∷ restore_bytes ++ 132 ∷ 19 ∷ 75 ∷ 253 ∷ []
    ++ 195 ∷ bare_restore_bytes ++ 172 ∷ 72 ∷ 11 ∷ 18 ∷ []
    ++ 195 ∷ disband_bytes ++ 176 ∷ 68 ∷ 1 ∷ 16 ∷ []
    ++ 195 ∷ tied_disband_bytes ++ 251 ∷ 40 ∷ 79 ∷ 159 ∷ []
    ++ 195 ∷ low_bytes ++ 181 ∷ 10 ∷ 253 ∷ 42 ∷ []
    ++ 195 ∷ high_bytes ++ 79 ∷ 63 ∷ 197 ∷ 209 ∷ []
    ++ 195 ∷ reopen_bytes ++ 73 ∷ 40 ∷ 177 ∷ 144 ∷ []

abbrev pub turned_log : List ℕ
turned_log = turned_front ++ 0 ∷ []

abbrev pub turned_events : List Event
turned_events =
    restore_event
    ∷ bare_restore_event
    ∷ disband_event
    ∷ tied_disband_event
    ∷ low_event
    ∷ high_event
    ∷ reopen_event
    ∷ []

-- each as one of a line of JSON
abbrev pub turned_json : List (List ℕ)
turned_json =
    (codes "{\"align\":\"end\",\"at\":[-1,2],\"clock\":9,\"dash\":\"dashed\",\"dissolved\":false,\"fill\":\"010203\",\"heads\":\"both\",\"id\":\"1.1\",\"kind\":\"group\","
    ++ codes "\"label\":\"a b\",\"letters\":300,\"link\":{\"dx\":1,\"dy\":-2,\"id\":\"3.2\"},\"op\":\"restore\",\"opacity\":50,"
    ++ codes "\"rank\":{\"low\":\"4.2\"},\"round\":8,\"seq\":1,\"site\":1,"
    ++ codes "\"size\":[3,4],\"stroke\":\"0000FF\",\"ties\":[{\"id\":\"2.1\",\"link\":null},"
    ++ codes "{\"id\":\"5.1\",\"link\":{\"dx\":0,\"dy\":5,\"id\":\"6.2\"}}],\"width\":64}")
    ∷ (codes "{\"at\":[0,0],\"clock\":10,\"dissolved\":true,\"fill\":null,\"id\":\"3.2\",\"kind\":\"group\","
    ++ codes "\"label\":\"\",\"link\":null,\"op\":\"restore\",\"rank\":{\"high\":\"3.2\"},\"seq\":2,\"site\":1,"
    ++ codes "\"size\":[0,0],\"stroke\":\"000000\",\"ties\":[],\"width\":1}")
    ∷ (codes "{\"clock\":11,\"id\":\"3.2\",\"op\":\"disband\",\"seq\":3,\"site\":1,"
    ++ codes "\"ties\":[{\"id\":\"2.1\",\"link\":null}]}")
    ∷ (codes "{\"clock\":12,\"id\":\"8.16\",\"op\":\"disband\",\"seq\":4,\"site\":1,"
    ++ codes "\"ties\":[{\"id\":\"2.1\",\"link\":{\"dx\":0,\"dy\":7,\"id\":\"6.2\"}},{\"id\":\"5.1\",\"link\":null}]}")
    ∷ codes "{\"clock\":13,\"id\":\"1.1\",\"op\":\"rerank\",\"rank\":{\"low\":\"4.2\"},\"seq\":5,\"site\":1}"
    ∷ codes "{\"clock\":14,\"id\":\"1.1\",\"op\":\"rerank\",\"rank\":{\"high\":\"13.1\"},\"seq\":6,\"site\":1}"
    ∷ codes "{\"clock\":15,\"id\":\"3.2\",\"op\":\"reopen\",\"seq\":7,\"site\":1}"
    ∷ []

-- ---- connectors and looks

-- a connector of 1.1 and 2.1, without a label
abbrev pub connect_bytes : List ℕ
connect_bytes = 0 ∷ 0 ∷ 0 ∷ 0 ∷ 0 ∷ 16 ∷ 1 ∷ 0 ∷ 8 ∷ 16 ∷ 0 ∷ 0 ∷ 0 ∷ 0 ∷ 0 ∷ 1 ∷ 1 ∷ 0 ∷ 0 ∷ 0 ∷ 0 ∷ 0 ∷ 2 ∷ 1 ∷ 0 ∷ []

abbrev pub ends : ℕ → ℕ → Ends
ends from to = record { from = at_stamp from 1; to = at_stamp to 1 }

abbrev pub connect_event : Event
connect_event = event 16 1 8 (Connect (ends 1 2) [])

-- the same turned round
abbrev pub reconnect_bytes : List ℕ
reconnect_bytes =
    0 ∷ 0 ∷ 0 ∷ 0 ∷ 0 ∷ 17 ∷ 1 ∷ 0 ∷ 9 ∷ 17 ∷ 0 ∷ 0 ∷ 0 ∷ 0 ∷ 0 ∷ 16 ∷ 1
    ∷ 0 ∷ 0 ∷ 0 ∷ 0 ∷ 0 ∷ 2 ∷ 1 ∷ 0 ∷ 0 ∷ 0 ∷ 0 ∷ 0 ∷ 1 ∷ 1 ∷ []

abbrev pub reconnect_event : Event
reconnect_event = event 17 1 9 (Set (at_stamp 16 1) (ToEnds (Some (ends 2 1))))

-- one part of a look, which has 27 bytes, the fewest; and all of them, of 45
abbrev pub dash_bytes : List ℕ
dash_bytes =
    0 ∷ 0 ∷ 0 ∷ 0 ∷ 0 ∷ 18 ∷ 1 ∷ 0 ∷ 10 ∷ 15 ∷ 0 ∷ 0 ∷ 0 ∷ 0 ∷ 0 ∷ 1 ∷ 1
    ∷ 0 ∷ 0 ∷ 0 ∷ 1 ∷ 1 ∷ 0 ∷ 0 ∷ 0 ∷ 0 ∷ 0 ∷ []

abbrev pub dash_event : Event
dash_event = event 18 1 10 (Set (at_stamp 1 1) (ToLooks (record no_looks { dash = Some Dashed })))

abbrev pub style_bytes : List ℕ
style_bytes =
    0 ∷ 0 ∷ 0 ∷ 0 ∷ 0 ∷ 19 ∷ 1 ∷ 0 ∷ 11 ∷ 15 ∷ 0 ∷ 0 ∷ 0 ∷ 0 ∷ 0 ∷ 1 ∷ 1
    ∷ 1 ∷ 0 ∷ 0 ∷ 171 ∷ 12 ∷ 1 ∷ 255 ∷ 255 ∷ 255 ∷ 255 ∷ 1 ∷ 64 ∷ 1 ∷ 2 ∷ 1 ∷ 3
    ∷ 1 ∷ 0 ∷ 15 ∷ 66 ∷ 64 ∷ 1 ∷ 1 ∷ 1 ∷ 3 ∷ 232 ∷ 1 ∷ 3 ∷ []

abbrev pub style_event : Event
style_event =
    event 19 1 11 (Set (at_stamp 1 1) (ToLooks (record {
      stroke = Some 0x00AB0C;
      fill = Some None;
      width = Some 64;
      dash = Some Dotted;
      heads = Some AtBoth;
      round = Some (Some 1000000);
      opacity = Some 1;
      letters = Some (Some 1000);
      align = Some (Some End);
    })))

abbrev pub joined_log : List ℕ
joined_log =
    turned_front
    ++ 195 ∷ connect_bytes ++ 235 ∷ 63 ∷ 25 ∷ 166 ∷ []
    ++ 195 ∷ reconnect_bytes ++ 210 ∷ 243 ∷ 80 ∷ 212 ∷ []
    ++ 195 ∷ dash_bytes ++ 176 ∷ 62 ∷ 133 ∷ 144 ∷ []
    ++ 195 ∷ style_bytes ++ 86 ∷ 7 ∷ 133 ∷ 129 ∷ []
    ++ 0 ∷ []

abbrev pub joined_events : List Event
joined_events = turned_events ++ connect_event ∷ reconnect_event ∷ dash_event ∷ style_event ∷ []

abbrev pub joined_json : List (List ℕ)
joined_json =
    codes "{\"clock\":16,\"from\":\"1.1\",\"label\":\"\",\"op\":\"connect\",\"seq\":8,\"site\":1,\"to\":\"2.1\"}"
    ∷ codes "{\"clock\":17,\"from\":\"2.1\",\"id\":\"16.1\",\"op\":\"reconnect\",\"seq\":9,\"site\":1,\"to\":\"1.1\"}"
    ∷ codes "{\"clock\":18,\"dash\":\"dashed\",\"id\":\"1.1\",\"op\":\"restyle\",\"seq\":10,\"site\":1}"
    ∷ (codes "{\"align\":\"end\",\"clock\":19,\"dash\":\"dotted\",\"fill\":null,\"heads\":\"both\",\"id\":\"1.1\",\"letters\":1000,"
    ++ codes "\"op\":\"restyle\",\"opacity\":1,\"round\":1000000,\"seq\":11,\"site\":1,\"stroke\":\"00AB0C\",\"width\":64}")
    ∷ []

-- ---- versions

-- a log whose version is that byte, and whose first record has that tag, and nothing behind it
abbrev pub tagged : ℕ → ℕ → List ℕ
tagged version tag = set (begun_log (tag ∷ [])) 4 version

-- the versions that have the tag read on, and the others don't
abbrev pub tag_rows : List (List ℕ × LogWhy × ℕ)
tag_rows =
    map (λ tag. (tagged 1 tag, Field, 1)) (11 ∷ 12 ∷ 13 ∷ 14 ∷ 15 ∷ 16 ∷ 17 ∷ 18 ∷ [])
    ++ map (λ tag. (tagged 2 tag, Field, 1)) (11 ∷ 12 ∷ 13 ∷ 14 ∷ 15 ∷ 16 ∷ 17 ∷ 18 ∷ [])
    ++ map (λ tag. (tagged 7 tag, Short, 0)) (10 ∷ 11 ∷ 12 ∷ 13 ∷ 14 ∷ 15 ∷ 16 ∷ 17 ∷ [])
    ++ map (λ tag. (tagged 7 tag, Field, 1)) (0 ∷ 18 ∷ 255 ∷ [])

-- ---- changed bytes

-- the fault of these bytes where one of them is changed to this value
pub record Change : Type 0 where
  pub at : ℕ
  pub value : ℕ
  pub why : LogWhy
  pub place : ℕ

abbrev pub change : ℕ → ℕ → LogWhy → ℕ → Change
change at value why place = record { at = at; value = value; why = why; place = place }

abbrev pub IsFaulty : List ℕ → LogWhy → ℕ → Type 0
IsFaulty bytes why place = log bytes ≡ Err (fault_at why (length bytes - place))

abbrev pub ChangesRead : List ℕ → List Change → Type 0
ChangesRead bytes changes = AllByRecursion (λ c. IsFaulty (set bytes c.at c.value) c.why c.place) changes

-- a log of one record, which begins at byte 12, as the first event of its site, and of its check
abbrev pub one_log : List ℕ → List ℕ → List ℕ
one_log bytes check = set (header_three_bytes ++ 195 ∷ bytes ++ check ++ 0 ∷ []) 20 1

abbrev pub restored_log : List ℕ
restored_log = one_log restore_bytes (132 ∷ 19 ∷ 75 ∷ 253 ∷ [])

abbrev pub disbanded_log : List ℕ
disbanded_log = one_log disband_bytes (243 ∷ 190 ∷ 189 ∷ 158 ∷ [])

abbrev pub reranked_log : List ℕ
reranked_log = one_log low_bytes (156 ∷ 255 ∷ 229 ∷ 131 ∷ [])

abbrev pub reopened_log : List ℕ
reopened_log = one_log reopen_bytes (22 ∷ 221 ∷ 23 ∷ 133 ∷ [])

-- each is read as it is
abbrev pub whole_logs : List (List ℕ)
whole_logs = restored_log ∷ disbanded_log ∷ reranked_log ∷ reopened_log ∷ []

-- Where a change leaves an event, that has another check than the one behind it.
-- Of the restore: the tag is byte 21, the id 22 to 28, the object 29 to 94, the number of ties 95, and the ties begin
-- at 96 and 104.
abbrev pub restore_changes : List Change
restore_changes =
    -- versions that don't have it
    change 4 1 Field 21
    ∷ change 4 2 Field 21
    ∷ change 27 0 Field 22
    ∷ change 28 17 Field 28
    -- the object is 9.1, the event's own stamp; and 8.1, which isn't below its group
    ∷ change 27 9 FutureId 22
    ∷ change 27 8 FutureId 71
    ∷ change 29 0 Field 29
    ∷ change 29 7 Field 29
    -- a text with ties, and a connector without ends
    ∷ change 29 4 Field 95
    ∷ change 29 6 Field 69
    ∷ change 30 128 Field 30
    ∷ change 34 128 Field 34
    ∷ change 38 255 Field 38
    ∷ change 42 255 Field 42
    ∷ change 46 1 Field 46
    ∷ change 50 1 Field 50
    ∷ change 54 0 Field 54
    ∷ change 54 65 Field 54
    ∷ change 55 3 Field 55
    ∷ change 56 4 Field 56
    ∷ change 57 1 Field 57
    ∷ change 61 0 Field 61
    ∷ change 61 101 Field 61
    ∷ change 62 4 Field 62
    ∷ change 64 4 Field 64
    -- longer than a title
    ∷ change 65 201 Field 65
    ∷ change 66 31 Field 66
    -- a line feed in a title
    ∷ change 67 10 Field 66
    -- an end behind the event
    ∷ change 69 1 FutureId 70
    ∷ change 69 2 Field 69
    ∷ change 70 2 Field 70
    -- the group is 9.2, which isn't before the event; none; and 1.2, which is above the object
    ∷ change 76 9 FutureId 71
    ∷ change 76 0 Field 71
    ∷ change 76 1 Check 127
    ∷ change 77 17 Field 77
    ∷ change 78 64 Field 78
    ∷ change 82 64 Field 82
    ∷ change 86 1 Check 127
    ∷ change 86 2 Field 86
    ∷ change 87 1 Check 127
    ∷ change 87 2 Field 87
    ∷ change 93 0 Field 88
    ∷ change 93 9 FutureId 88
    ∷ change 93 8 Check 127
    ∷ change 94 0 Field 94
    ∷ change 95 33 Field 95
    -- a third tie would begin at the check
    ∷ change 95 3 Short 132
    ∷ change 101 9 FutureId 96
    ∷ change 101 5 MemberOrder 104
    ∷ change 103 2 Field 103
    ∷ change 109 2 MemberOrder 104
    -- above the first tie, but not before the event
    ∷ change 109 9 FutureId 104
    ∷ change 110 0 Field 110
    ∷ change 111 2 Field 111
    ∷ change 117 9 FutureId 112
    ∷ change 117 4 FutureId 112
    ∷ change 117 5 Check 127
    ∷ change 119 64 Field 119
    ∷ change 123 64 Field 123
    ∷ []

-- the group is the object itself
abbrev pub own_group_log : List ℕ
own_group_log = set (set restored_log 76 1) 77 1

-- Of the disband: the id is 22 to 28, the number of ties 29, and the tie begins at 30.
abbrev pub disband_changes : List Change
disband_changes =
    change 4 1 Field 21
    ∷ change 4 2 Field 21
    ∷ change 27 11 FutureId 22
    ∷ change 29 0 Field 29
    ∷ change 29 33 Field 29
    ∷ change 35 11 FutureId 30
    ∷ change 35 0 Field 30
    ∷ change 35 10 Check 38
    -- a link that isn't there
    ∷ change 37 1 Short 43
    ∷ change 37 2 Field 37
    ∷ []

-- Of the rerank: the id is 22 to 28, and the rank 29 to 36.
abbrev pub rerank_changes : List Change
rerank_changes =
    change 4 1 Field 21
    ∷ change 4 2 Field 21
    ∷ change 27 13 FutureId 22
    ∷ change 29 1 Check 37
    ∷ change 29 2 Field 29
    ∷ change 35 0 Field 30
    ∷ change 35 13 FutureId 30
    ∷ change 36 17 Field 36
    ∷ []

abbrev pub reopen_changes : List Change
reopen_changes =
    change 4 1 Field 21
    ∷ change 4 2 Field 21
    ∷ change 27 15 FutureId 22
    ∷ change 28 0 Field 28
    ∷ []

abbrev pub connected_log : List ℕ
connected_log = one_log connect_bytes (211 ∷ 128 ∷ 230 ∷ 244 ∷ [])

abbrev pub reconnected_log : List ℕ
reconnected_log = one_log reconnect_bytes (190 ∷ 175 ∷ 112 ∷ 2 ∷ [])

abbrev pub dashed_log : List ℕ
dashed_log = one_log dash_bytes (201 ∷ 15 ∷ 217 ∷ 79 ∷ [])

abbrev pub styled_log : List ℕ
styled_log = one_log style_bytes (210 ∷ 74 ∷ 214 ∷ 173 ∷ [])

abbrev pub joined_logs : List (List ℕ)
joined_logs = connected_log ∷ reconnected_log ∷ dashed_log ∷ styled_log ∷ []

-- Of the connect: the ids are 22 to 28 and 29 to 35, the length of the label is 36, and the check begins at 37.
abbrev pub connect_changes : List Change
connect_changes =
    change 4 1 Field 21
    ∷ change 4 2 Field 21
    ∷ change 27 0 Field 22
    ∷ change 27 16 FutureId 22
    ∷ change 28 17 Field 28
    -- both ends are 2.1
    ∷ change 27 2 Check 37
    ∷ change 34 0 Field 29
    ∷ change 34 16 FutureId 29
    ∷ change 35 0 Field 35
    -- a label that isn't there; and behind CA a byte above 2B, and no length begins so
    ∷ change 36 200 Short 42
    ∷ change 36 201 Short 42
    ∷ change 36 202 Field 36
    ∷ change 36 203 Field 36
    -- the first byte of the check is no label
    ∷ change 36 1 Field 37
    ∷ []

-- Of the reconnect: the ids are 22 to 28, 29 to 35 and 36 to 42.
abbrev pub reconnect_changes : List Change
reconnect_changes =
    change 4 1 Field 21
    ∷ change 4 2 Field 21
    ∷ change 27 17 FutureId 22
    -- from itself
    ∷ change 34 16 Check 43
    ∷ change 34 17 FutureId 29
    ∷ change 35 17 Field 35
    ∷ change 41 0 Field 36
    ∷ change 41 17 FutureId 36
    ∷ change 42 17 Field 42
    ∷ []

-- Of the dash: the id is 22 to 28, and the looks are 29 to 38, of which 32 is the flag of the dash and 33 its value.
abbrev pub dash_changes : List Change
dash_changes =
    change 4 1 Field 21
    ∷ change 4 2 Field 21
    ∷ change 27 18 FutureId 22
    ∷ change 29 2 Field 29
    ∷ change 30 2 Field 30
    ∷ change 31 2 Field 31
    ∷ change 32 2 Field 32
    ∷ change 33 0 Check 39
    ∷ change 33 2 Check 39
    ∷ change 33 3 Field 33
    ∷ change 34 2 Field 34
    ∷ change 35 2 Field 35
    ∷ change 36 2 Field 36
    ∷ change 37 2 Field 37
    ∷ change 38 2 Field 38
    ∷ []

-- Of all looks: the flags are 29, 34, 39, 41, 43, 45, 50, 52 and 55, and the check begins at 57.
abbrev pub style_changes : List Change
style_changes =
    change 30 1 Field 30
    ∷ change 35 254 Field 35
    ∷ change 40 0 Field 40
    ∷ change 40 65 Field 40
    ∷ change 42 3 Field 42
    ∷ change 44 4 Field 44
    ∷ change 46 255 Field 46
    ∷ change 49 65 Field 46
    ∷ change 51 0 Field 51
    ∷ change 51 101 Field 51
    ∷ change 54 233 Field 53
    ∷ change 56 0 Check 57
    ∷ change 56 4 Field 56
    ∷ []

-- a style of 1.1 by 3.1, of these bytes
abbrev pub looks_log : List ℕ → List ℕ
looks_log bytes = set (begun_log (15 ∷ 0 ∷ 0 ∷ 0 ∷ 0 ∷ 0 ∷ 1 ∷ 1 ∷ bytes)) 4 7

-- Nothing is set, or a stroke, a fill or a width alone: the fault is at the first of the looks, behind all faults
-- within them.
abbrev pub no_styles : List (List ℕ × LogWhy × ℕ)
no_styles =
    (looks_log (replicate 9 0), Field, 9)
    ∷ (looks_log (1 ∷ 0 ∷ 0 ∷ 171 ∷ 12 ∷ replicate 8 0), Field, 13)
    ∷ (looks_log (0 ∷ 1 ∷ 255 ∷ 255 ∷ 255 ∷ 255 ∷ replicate 7 0), Field, 13)
    ∷ (looks_log (0 ∷ 0 ∷ 1 ∷ 5 ∷ replicate 6 0), Field, 10)
    ∷ (looks_log (0 ∷ 0 ∷ 1 ∷ 0 ∷ replicate 6 0), Field, 7)
    ∷ (looks_log (replicate 8 0), Short, 0)
    ∷ []

-- ---- lengths of labels

-- how the length of a label is spelled
abbrev pub lengths : List (ℕ × List ℕ)
lengths =
    (0, 0 ∷ [])
    ∷ (200, 200 ∷ [])
    ∷ (201, 201 ∷ 0 ∷ [])
    ∷ (456, 201 ∷ 255 ∷ [])
    ∷ (457, 202 ∷ 0 ∷ [])
    ∷ (500, 202 ∷ 43 ∷ [])
    ∷ []

-- These are none: two bytes for 501, other first bytes, and half a length.
abbrev pub no_lengths : List (List ℕ × FieldFault)
no_lengths =
    (202 ∷ 44 ∷ [], record { why = field.Field; left = 2 })
    ∷ (203 ∷ 0 ∷ [], record { why = field.Field; left = 2 })
    ∷ (255 ∷ [], record { why = field.Field; left = 1 })
    ∷ (201 ∷ [], record { why = field.Short; left = 0 })
    ∷ (202 ∷ [], record { why = field.Short; left = 0 })
    ∷ ([], record { why = field.Short; left = 0 })
    ∷ []

-- a log that is cut within its record, or within its check, to each of so many bytes more than 12
unfoldable pub AllShort : List ℕ → ℕ → Type 0
AllShort bytes zero = Unit {0}
AllShort bytes (suc count) = IsFaulty (take (12 + count) bytes) Short (12 + count) × AllShort bytes count
