-- Worked rows: logs of a few events, byte by byte, and what is printed of them.
use Prim.Native.String.{String}
use Rattle.std.specs.Prelude.{ℕ, ℤ, pos, negsuc, Bool, true, false, Option, List, [], ◌∷◌, ◌++◌, map, replicate, take}
use Rattle.std.specs.Prelude.{set, codes, Some, None}
use Rattle.gd_base.specs.Looks.{only_fill, only_stroke, only_width}
use Rattle.gd_base.specs.Stamps.{Stamp}
use Rattle.gd_base.specs.declared.content.Content.TheVariants.{ToPlace, ToSize, ToLooks, ToText, ToFlag, ToRank}
use Rattle.gd_base.specs.declared.content.Height.TheVariants.{To}
use Rattle.gd_base.specs.declared.content.Side.TheVariants.{Bottom, Top}
use Rattle.gd_base.specs.declared.member.Member.{Member}
use Rattle.gd_base.specs.declared.op.Op.TheVariants.{Create, Delete, Set, Group}
use Rattle.gd_base.specs.declared.shape.Shape.TheVariants.{Rect, Ellipse}
use Rattle.gd_base.specs.declared.version.Version.TheVariants.{One, Two, Three}
use Rattle.gd_events.specs.Ops.{Op}
use Rattle.gd_events.specs.Events.{Event}
use Rattle.gd_base.specs.declared.fault.LogWhy.{LogWhy}
use Rattle.gd_base.specs.declared.fault.LogWhy.TheVariants.{Short, Magic, Version, Field, FutureId, MemberOrder, NoSite}
use Rattle.gd_base.specs.declared.fault.LogWhy.TheVariants.{Turn, Backdated}
use Rattle.gd_base.specs.declared.fault.WireWhy.{WireWhy}
use Rattle.gd_base.specs.declared.fault.WireWhy.TheVariants as wire
use Rattle.gd_grammar.specs.FrameBytes.{Frame, Misread, with_checksum}
use Rattle.gd_grammar.specs.HeaderBytes.{Header}
use Rattle.gd_grammar.specs.LogBytes.{LogMisread}
use Rattle.gd_effects.specs.Effects.{Effect, Print, Work}
use Rattle.gd_asked.specs.declared.command.Command.{Command}
use Rattle.gd_asked.specs.declared.command.Command.TheVariants.{Replay}
use Rattle.gd_options.specs.declared.format.Format.{Format}
use Rattle.gd_options.specs.declared.format.Format.TheVariants.{Text}
use Rattle.gd_arrivals.specs.Tally.{Tally}

abbrev pub at_stamp : ℕ → ℕ → Stamp
at_stamp clock site = record { clock = clock; site = site }

abbrev pub event : ℕ → ℕ → ℕ → Op → Event
event clock site number op = record { stamp = at_stamp clock site; number = number; op = op }

abbrev pub member : ℕ → ℕ → ℤ → ℤ → Member
member clock site dx dy = record { id = at_stamp clock site; dx = dx; dy = dy }

-- version 1, session 7, site 1 of 2
abbrev pub header_bytes : List ℕ
header_bytes = 71 ∷ 68 ∷ 79 ∷ 76 ∷ 1 ∷ 0 ∷ 0 ∷ 0 ∷ 7 ∷ 1 ∷ 2 ∷ []

abbrev pub header : Header
header = record { version = One; session = 7; site = 1; n = 2 }

-- the same in version 2
abbrev pub header_two : Header
header_two = record { version = Two; session = 7; site = 1; n = 2 }

-- and in version 3
abbrev pub header_three_bytes : List ℕ
header_three_bytes = set header_bytes 4 7

abbrev pub header_three : Header
header_three = record { version = Three; session = 7; site = 1; n = 2 }

-- a header and a closed gate
abbrev pub empty_log : List ℕ
empty_log = header_bytes ++ 0 ∷ []

-- two events of one clock: a rect of site 2, and then an ellipse of site 1
abbrev pub tie_log : List ℕ
tie_log =
    header_bytes
    ++ 195 ∷ 0 ∷ 0 ∷ 0 ∷ 0 ∷ 0 ∷ 1 ∷ 2 ∷ 0 ∷ 1 ∷ 1 ∷ 1 ∷ 0 ∷ 0 ∷ 0 ∷ 5 ∷ 0 ∷ 0 ∷ 0 ∷ 5 ∷ 0 ∷ 0 ∷ 0 ∷ 10 ∷ 0 ∷ 0 ∷ 0 ∷ 10
    ∷ 0 ∷ []
    ++ 195 ∷ 0 ∷ 0 ∷ 0 ∷ 0 ∷ 0 ∷ 1 ∷ 1 ∷ 0 ∷ 1 ∷ 1 ∷ 2 ∷ 0 ∷ 0 ∷ 0 ∷ 0 ∷ 0 ∷ 0 ∷ 0 ∷ 0 ∷ 0 ∷ 0 ∷ 0 ∷ 20 ∷ 0 ∷ 0 ∷ 0 ∷ 20
    ∷ 0 ∷ []
    ++ 0 ∷ []

abbrev pub tie_events : List Event
tie_events =
    event 1 2 1 (Create Rect (pos 5) (pos 5) (pos 10) (pos 10) [])
    ∷ event 1 1 1 (Create Ellipse (pos 0) (pos 0) (pos 20) (pos 20) [])
    ∷ []

abbrev pub tie_text : List (List ℕ)
tie_text =
    codes "ellipse 1.1 in - at 0 0 size 20 20 stroke 000000 fill none width 1\n"
    ∷ codes "rect 1.2 in - at 5 5 size 10 10 stroke 000000 fill none width 1\n"
    ∷ codes "end 2\n"
    ∷ []

-- a rect with a label, and a move of it; no gate stands at the end
abbrev pub moved_log : List ℕ
moved_log =
    header_bytes
    ++ 195 ∷ 0 ∷ 0 ∷ 0 ∷ 0 ∷ 0 ∷ 1 ∷ 1 ∷ 0 ∷ 1 ∷ 1 ∷ 1 ∷ 0 ∷ 0 ∷ 0 ∷ 0 ∷ 0 ∷ 0 ∷ 0 ∷ 0 ∷ 0 ∷ 0 ∷ 0 ∷ 10 ∷ 0 ∷ 0 ∷ 0 ∷ 10
    ∷ 3 ∷ 97 ∷ 32 ∷ 98 ∷ []
    ++ 195 ∷ 0 ∷ 0 ∷ 0 ∷ 0 ∷ 0 ∷ 2 ∷ 1 ∷ 0 ∷ 2 ∷ 3 ∷ 0 ∷ 0 ∷ 0 ∷ 0 ∷ 0 ∷ 1 ∷ 1 ∷ 255 ∷ 255 ∷ 255 ∷ 249 ∷ 0 ∷ 0 ∷ 0 ∷ 8
    ∷ []

abbrev pub moved_events : List Event
moved_events =
    event 1 1 1 (Create Rect (pos 0) (pos 0) (pos 10) (pos 10) (97 ∷ 32 ∷ 98 ∷ []))
    ∷ event 2 1 2 (Set (at_stamp 1 1) (ToPlace (negsuc 6) (pos 8)))
    ∷ []

abbrev pub moved_text : List (List ℕ)
moved_text =
    codes "rect 1.1 in - at -7 8 size 10 10 stroke 000000 fill none width 1 text a b\n"
    ∷ codes "end 1\n"
    ∷ []

-- an ellipse, its size, its look and its label, and the fill of an object that isn't there. The label has a character
-- of two bytes
abbrev pub styled_log : List ℕ
styled_log =
    header_bytes
    ++ 195 ∷ 0 ∷ 0 ∷ 0 ∷ 0 ∷ 0 ∷ 1 ∷ 1 ∷ 0 ∷ 1 ∷ 1 ∷ 2 ∷ 0 ∷ 0 ∷ 0 ∷ 0 ∷ 0 ∷ 0 ∷ 0 ∷ 0 ∷ 0 ∷ 0 ∷ 0 ∷ 20 ∷ 0 ∷ 0 ∷ 0 ∷ 20
    ∷ 0 ∷ []
    ++ 195 ∷ 0 ∷ 0 ∷ 0 ∷ 0 ∷ 0 ∷ 2 ∷ 1 ∷ 0 ∷ 2 ∷ 4 ∷ 0 ∷ 0 ∷ 0 ∷ 0 ∷ 0 ∷ 1 ∷ 1 ∷ 255 ∷ 255 ∷ 255 ∷ 251 ∷ 0 ∷ 0 ∷ 0 ∷ 30
    ∷ []
    ++ 195 ∷ 0 ∷ 0 ∷ 0 ∷ 0 ∷ 0 ∷ 3 ∷ 1 ∷ 0 ∷ 3 ∷ 5 ∷ 0 ∷ 0 ∷ 0 ∷ 0 ∷ 0 ∷ 1 ∷ 1 ∷ 1 ∷ 0 ∷ 0 ∷ 171 ∷ 12 ∷ []
    ++ 195 ∷ 0 ∷ 0 ∷ 0 ∷ 0 ∷ 0 ∷ 4 ∷ 1 ∷ 0 ∷ 4 ∷ 5 ∷ 0 ∷ 0 ∷ 0 ∷ 0 ∷ 0 ∷ 1 ∷ 1 ∷ 2 ∷ 0 ∷ 255 ∷ 128 ∷ 0 ∷ []
    ++ 195 ∷ 0 ∷ 0 ∷ 0 ∷ 0 ∷ 0 ∷ 5 ∷ 1 ∷ 0 ∷ 5 ∷ 5 ∷ 0 ∷ 0 ∷ 0 ∷ 0 ∷ 0 ∷ 1 ∷ 1 ∷ 3 ∷ 0 ∷ 0 ∷ 0 ∷ 64 ∷ []
    ++ 195 ∷ 0 ∷ 0 ∷ 0 ∷ 0 ∷ 0 ∷ 6 ∷ 1 ∷ 0 ∷ 6 ∷ 6 ∷ 0 ∷ 0 ∷ 0 ∷ 0 ∷ 0 ∷ 1 ∷ 1 ∷ 5 ∷ 99 ∷ 97 ∷ 102 ∷ 195 ∷ 169 ∷ []
    ++ 195 ∷ 0 ∷ 0 ∷ 0 ∷ 0 ∷ 0 ∷ 7 ∷ 1 ∷ 0 ∷ 7 ∷ 5 ∷ 0 ∷ 0 ∷ 0 ∷ 0 ∷ 0 ∷ 1 ∷ 2 ∷ 2 ∷ 255 ∷ 255 ∷ 255 ∷ 255 ∷ []
    ++ 0 ∷ []

abbrev pub styled_events : List Event
styled_events =
    event 1 1 1 (Create Ellipse (pos 0) (pos 0) (pos 20) (pos 20) [])
    ∷ event 2 1 2 (Set (at_stamp 1 1) (ToSize (negsuc 4) (pos 30)))
    ∷ event 3 1 3 (Set (at_stamp 1 1) (ToLooks (only_stroke 0x00AB0C)))
    ∷ event 4 1 4 (Set (at_stamp 1 1) (ToLooks (only_fill (Some 0xFF8000))))
    ∷ event 5 1 5 (Set (at_stamp 1 1) (ToLooks (only_width 64)))
    ∷ event 6 1 6 (Set (at_stamp 1 1) (ToText (99 ∷ 97 ∷ 102 ∷ 195 ∷ 169 ∷ [])))
    ∷ event 7 1 7 (Set (at_stamp 1 2) (ToLooks (only_fill None)))
    ∷ []

abbrev pub styled_text : List (List ℕ)
styled_text =
    (codes "ellipse 1.1 in - at 0 0 size -5 30 stroke 00AB0C fill FF8000 width 64 text caf" ++ 195 ∷ 169 ∷ 10 ∷ [])
    ∷ codes "end 1\n"
    ∷ []

-- ---- drawings

-- the lines of a rect of size 10 10 as it was made, and of a group: of that id, in that group, at that place
abbrev pub square_line : String → String → String → List ℕ
square_line id group place =
    codes "rect " ++ codes id ++ codes " in " ++ codes group ++ codes " at " ++ codes place
    ++ codes " size 10 10 stroke 000000 fill none width 1\n"

abbrev pub group_line : String → String → String → List ℕ
group_line id group place =
    codes "group " ++ codes id ++ codes " in " ++ codes group ++ codes " at " ++ codes place ++ codes "\n"

-- a rect, an ellipse, that event at clock 5, and behind it a raise of the ellipse at clock 4
abbrev pub ranked_by : Op → List Event
ranked_by op =
    event 1 1 1 (Create Rect (pos 0) (pos 0) (pos 10) (pos 10) [])
    ∷ event 2 1 2 (Create Ellipse (pos 0) (pos 0) (pos 20) (pos 20) [])
    ∷ event 5 1 3 op
    ∷ event 4 2 1 (Set (at_stamp 2 1) (ToRank (To Top)))
    ∷ []

-- the rect is raised, or the ellipse is lowered: in both the ellipse lies below the rect
abbrev pub rank_events : List Event
rank_events = ranked_by (Set (at_stamp 1 1) (ToRank (To Top)))

abbrev pub ellipse_lowered : List Event
ellipse_lowered = ranked_by (Set (at_stamp 2 1) (ToRank (To Bottom)))

abbrev pub rank_text : List (List ℕ)
rank_text =
    codes "ellipse 2.1 in - at 0 0 size 20 20 stroke 000000 fill none width 1\n"
    ∷ codes "rect 1.1 in - at 0 0 size 10 10 stroke 000000 fill none width 1\n"
    ∷ codes "end 2\n"
    ∷ []

abbrev pub square : ℤ → Op
square x = Create Rect x (pos 0) (pos 10) (pos 10) []

-- Two shapes are grouped, their group is moved by one site and dissolved by the other, and then both sites group the
-- shapes again where they stand. In whatever order the events come, nothing moves.
abbrev pub regrouped_events : List Event
regrouped_events =
    event 1 1 1 (square (pos 0))
    ∷ event 2 1 2 (square (pos 20))
    ∷ event 3 1 3 (Group (member 1 1 (pos 0) (pos 0) ∷ member 2 1 (pos 0) (pos 0) ∷ []))
    ∷ event 4 1 4 (Set (at_stamp 3 1) (ToPlace (pos 5) (pos 7)))
    ∷ event 5 1 5 (Group (member 1 1 (pos 5) (pos 7) ∷ member 2 1 (pos 5) (pos 7) ∷ []))
    ∷ event 4 2 1 (Set (at_stamp 3 1) (ToFlag true))
    ∷ event 5 2 2 (Group (member 1 1 (pos 5) (pos 7) ∷ member 2 1 (pos 5) (pos 7) ∷ []))
    ∷ []

abbrev pub regrouped_text : List (List ℕ)
regrouped_text =
    codes "group 5.1 in - at 0 0\n"
    ∷ codes "group 5.2 in - at 0 0\n"
    ∷ codes "rect 1.1 in 5.2 at 5 7 size 10 10 stroke 000000 fill none width 1\n"
    ∷ codes "rect 2.1 in 5.2 at 25 7 size 10 10 stroke 000000 fill none width 1\n"
    ∷ codes "end 4\n"
    ∷ []

-- Groups within groups. 5.1 is deleted, so 1.1 and 2.1 are hidden. 6.1 is dissolved and 7.1 holds it, so 3.1 and 4.1
-- are shown in 7.1, each at its own place, the shift into 6.1, the place of 6.1, the shift into 7.1 and the place of
-- 7.1 together. 3.1 was raised, so it stands above 4.1.
abbrev pub nested_events : List Event
nested_events =
    event 1 1 1 (square (pos 0))
    ∷ event 2 1 2 (square (pos 1))
    ∷ event 3 1 3 (square (pos 2))
    ∷ event 4 1 4 (square (pos 3))
    ∷ event 5 1 5 (Group (member 1 1 (pos 0) (pos 0) ∷ member 2 1 (pos 0) (pos 0) ∷ []))
    ∷ event 6 1 6 (Group (member 3 1 (pos 10) (pos 1) ∷ member 4 1 (pos 20) (pos 2) ∷ []))
    ∷ event 7 1 7 (Group (member 5 1 (pos 0) (pos 0) ∷ member 6 1 (pos 100) (pos 0) ∷ []))
    ∷ event 8 1 8 (Set (at_stamp 6 1) (ToPlace (pos 1000) (pos 40)))
    ∷ event 9 1 9 (Set (at_stamp 7 1) (ToPlace (pos 10000) (negsuc 99)))
    ∷ event 10 1 10 (Delete (at_stamp 5 1))
    ∷ event 11 1 11 (Set (at_stamp 6 1) (ToFlag true))
    ∷ event 12 1 12 (Set (at_stamp 3 1) (ToRank (To Top)))
    ∷ []

abbrev pub nested_text : List (List ℕ)
nested_text =
    codes "group 7.1 in - at 10000 -100\n"
    ∷ codes "rect 4.1 in 7.1 at 11123 -58 size 10 10 stroke 000000 fill none width 1\n"
    ∷ codes "rect 3.1 in 7.1 at 11112 -59 size 10 10 stroke 000000 fill none width 1\n"
    ∷ codes "end 3\n"
    ∷ []

-- a delete that comes before the create of its object
abbrev pub effect_before_cause : List Event
effect_before_cause =
    event 3 2 1 (Delete (at_stamp 1 1))
    ∷ event 1 1 1 (Create Rect (pos 0) (pos 0) (pos 10) (pos 10) [])
    ∷ []

-- a rect, its moves, and the moves and the delete of another site that come late
abbrev pub move_to : ℕ → ℕ → ℤ → Event
move_to clock site x = event clock site clock (Set (at_stamp 1 1) (ToPlace x x))

abbrev pub last_move : Event
last_move = move_to 3 1 (pos 60)

abbrev pub moves_held : List Event
moves_held = event 1 1 1 (square (pos 0)) ∷ move_to 2 1 (pos 50) ∷ last_move ∷ []

abbrev pub late_move : Event
late_move = move_to 2 2 (pos 90)

abbrev pub late_delete : Event
late_delete = event 2 3 1 (Delete (at_stamp 1 1))

-- Shapes of two sites. A late group takes 2.1, which 4.1 takes from it, and the move of 4.1 depends on 4.1 alone.
abbrev pub tied_held : List Event
tied_held =
    event 1 1 1 (square (pos 0))
    ∷ event 2 1 2 (square (pos 20))
    ∷ event 3 1 3 (Set (at_stamp 1 1) (ToRank (To Top)))
    ∷ event 4 1 4 (Group (member 1 1 (pos 0) (pos 0) ∷ member 2 1 (pos 0) (pos 0) ∷ []))
    ∷ event 5 1 5 (Set (at_stamp 4 1) (ToPlace (pos 5) (pos 5)))
    ∷ event 1 2 1 (square (pos 40))
    ∷ []

abbrev pub late_group : Event
late_group = event 3 2 2 (Group (member 1 2 (pos 0) (pos 0) ∷ member 2 1 (pos 0) (pos 0) ∷ []))

abbrev pub undone_by_the_group : List Event
undone_by_the_group =
    event 4 1 4 (Group (member 1 1 (pos 0) (pos 0) ∷ member 2 1 (pos 0) (pos 0) ∷ []))
    ∷ event 5 1 5 (Set (at_stamp 4 1) (ToPlace (pos 5) (pos 5)))
    ∷ []

abbrev pub end_alone : List (List ℕ)
end_alone = codes "end 0\n" ∷ []

abbrev pub cut_text : List (List ℕ)
cut_text = codes "bad log at 32: Short\n" ∷ []

abbrev pub replays : Format → Bool → Option Command
replays format counts = Some (Replay format counts false)

-- a replay as text, without counts
abbrev pub replay : Option Command
replay = replays Text false

abbrev pub counted : ℕ → ℕ → ℕ → ℕ → Tally
counted a d r u = record { applied = a; dropped = d; reworked = r; undone = u }

abbrev pub tie_counts : List ℕ
tie_counts = codes "arrivals applied 2 dropped 0 reworked 0 undone 0\n"

abbrev pub prints_of : List (List ℕ) → List Effect
prints_of lines = map Print lines

abbrev pub works_of : List ℕ → List Effect
works_of steps = map Work steps

-- a group of two objects that aren't there, and what dissolves it
abbrev pub grouped_log : List ℕ
grouped_log =
    header_bytes
    ++ 195 ∷ 0 ∷ 0 ∷ 0 ∷ 0 ∷ 0 ∷ 3 ∷ 1 ∷ 0 ∷ 1 ∷ 7 ∷ 2
    ∷ 0 ∷ 0 ∷ 0 ∷ 0 ∷ 0 ∷ 1 ∷ 2 ∷ 0 ∷ 0 ∷ 0 ∷ 5 ∷ 255 ∷ 255 ∷ 255 ∷ 249
    ∷ 0 ∷ 0 ∷ 0 ∷ 0 ∷ 0 ∷ 2 ∷ 1 ∷ 59 ∷ 154 ∷ 202 ∷ 0 ∷ 196 ∷ 101 ∷ 54 ∷ 0 ∷ []
    ++ 195 ∷ 0 ∷ 0 ∷ 0 ∷ 0 ∷ 0 ∷ 4 ∷ 2 ∷ 0 ∷ 1 ∷ 8 ∷ 0 ∷ 0 ∷ 0 ∷ 0 ∷ 0 ∷ 3 ∷ 1 ∷ []
    ++ 0 ∷ []

abbrev pub grouped_events : List Event
grouped_events =
    event 3 1 1 (Group (member 1 2 (pos 5) (negsuc 6) ∷ member 2 1 (pos 1000000000) (negsuc 999999999) ∷ []))
    ∷ event 4 2 1 (Set (at_stamp 3 1) (ToFlag true))
    ∷ []

-- a group whose second member isn't above its first
abbrev pub unordered_log : List ℕ
unordered_log =
    header_bytes
    ++ 195 ∷ 0 ∷ 0 ∷ 0 ∷ 0 ∷ 0 ∷ 3 ∷ 1 ∷ 0 ∷ 1 ∷ 7 ∷ 2
    ∷ 0 ∷ 0 ∷ 0 ∷ 0 ∷ 0 ∷ 2 ∷ 1 ∷ 0 ∷ 0 ∷ 0 ∷ 0 ∷ 0 ∷ 0 ∷ 0 ∷ 0
    ∷ 0 ∷ 0 ∷ 0 ∷ 0 ∷ 0 ∷ 2 ∷ 1 ∷ 0 ∷ 0 ∷ 0 ∷ 0 ∷ 0 ∷ 0 ∷ 0 ∷ 0 ∷ []

-- a delete of what its own event would have made
abbrev pub future_log : List ℕ
future_log = header_bytes ++ 195 ∷ 0 ∷ 0 ∷ 0 ∷ 0 ∷ 0 ∷ 2 ∷ 1 ∷ 0 ∷ 1 ∷ 2 ∷ 0 ∷ 0 ∷ 0 ∷ 0 ∷ 0 ∷ 2 ∷ 1 ∷ []

-- a resize of what its own event would have made, to a width that is out of range too
abbrev pub future_resize_log : List ℕ
future_resize_log =
    header_bytes
    ++ 195 ∷ 0 ∷ 0 ∷ 0 ∷ 0 ∷ 0 ∷ 2 ∷ 1 ∷ 0 ∷ 1 ∷ 4
    ∷ 0 ∷ 0 ∷ 0 ∷ 0 ∷ 0 ∷ 2 ∷ 1 ∷ 127 ∷ 0 ∷ 0 ∷ 0 ∷ 0 ∷ 0 ∷ 0 ∷ 0 ∷ []

-- a stroke one above the last colour
abbrev pub no_colour_log : List ℕ
no_colour_log =
    header_bytes
    ++ 195 ∷ 0 ∷ 0 ∷ 0 ∷ 0 ∷ 0 ∷ 2 ∷ 1 ∷ 0 ∷ 1 ∷ 5 ∷ 0 ∷ 0 ∷ 0 ∷ 0 ∷ 0 ∷ 1 ∷ 1 ∷ 1 ∷ 1 ∷ 0 ∷ 0 ∷ 0 ∷ []

-- a header, and the first bytes of a record that are its stamp, its number, and these
abbrev pub begun_log : List ℕ → List ℕ
begun_log bytes = header_bytes ++ 195 ∷ 0 ∷ 0 ∷ 0 ∷ 0 ∷ 0 ∷ 3 ∷ 1 ∷ 0 ∷ 1 ∷ bytes

-- a lower of an object that isn't there, in version 2; no gate stands at the end
abbrev pub lowered_log : List ℕ
lowered_log = set (begun_log (10 ∷ 0 ∷ 0 ∷ 0 ∷ 0 ∷ 0 ∷ 1 ∷ 1 ∷ [])) 4 2

abbrev pub lowered_events : List Event
lowered_events = event 3 1 1 (Set (at_stamp 1 1) (ToRank (To Bottom))) ∷ []

-- why bytes are no log, and how many of them stand from the fault's place on
abbrev pub fault_at : LogWhy → ℕ → LogMisread
fault_at why left = record { why = why; left = left }

-- The log of the tie has 70 bytes, and its records begin at the bytes 11 and 40.
abbrev pub log_faults : List (List ℕ × LogMisread)
log_faults =
    -- another format, versions that are none, two of them one bit from the third, and a site 0
    (set header_bytes 3 108, fault_at Magic 11)
    ∷ (set header_bytes 4 4, fault_at Version 7)
    ∷ (set header_bytes 4 0, fault_at Version 7)
    ∷ (set header_bytes 4 3, fault_at Version 7)
    ∷ (set header_bytes 4 5, fault_at Version 7)
    ∷ (set header_bytes 9 0, fault_at Field 2)
    ∷ (future_log, fault_at FutureId 7)
    ∷ (future_resize_log, fault_at FutureId 15)
    ∷ (no_colour_log, fault_at Field 4)
    ∷ (take 32 tie_log, fault_at Short 0)
    -- a lower in version 1, an operation that version 2 hasn't, and groups of one member and of 33
    ∷ (begun_log (10 ∷ []), fault_at Field 1)
    ∷ (begun_log (10 ∷ 0 ∷ 0 ∷ 0 ∷ 0 ∷ 0 ∷ 1 ∷ 1 ∷ []), fault_at Field 8)
    ∷ (set (begun_log (11 ∷ [])) 4 2, fault_at Field 1)
    ∷ (begun_log (7 ∷ 1 ∷ []), fault_at Field 1)
    ∷ (begun_log (7 ∷ 33 ∷ []), fault_at Field 1)
    ∷ (unordered_log, fault_at MemberOrder 15)
    -- an event of site 3, a number that isn't next, and two events of site 2 and one clock
    ∷ (set tie_log 18 3, fault_at NoSite 52)
    ∷ (set tie_log 20 2, fault_at Turn 51)
    ∷ (set (set tie_log 47 2) 49 2, fault_at Backdated 29)
    ∷ []

-- ---- frames

-- an event of site 2: a rect of size 10 10
abbrev pub record_row : List ℕ
record_row =
    0 ∷ 0 ∷ 0 ∷ 0 ∷ 0 ∷ 1 ∷ 2 ∷ 0 ∷ 1 ∷ 1 ∷ 1
    ∷ 0 ∷ 0 ∷ 0 ∷ 0 ∷ 0 ∷ 0 ∷ 0 ∷ 0 ∷ 0 ∷ 0 ∷ 0 ∷ 10 ∷ 0 ∷ 0 ∷ 0 ∷ 10 ∷ 0 ∷ []

abbrev pub record_event : Event
record_event = event 1 2 1 (square (pos 0))

-- The check of the events of that site. The checks and the checksums of all rows were found by a division of
-- polynomials.
abbrev pub record_check : List ℕ
record_check = 194 ∷ 24 ∷ 251 ∷ 186 ∷ []

-- The frame of that site for another, of which it holds nothing, without its checksum and with it.
abbrev pub body_row_to : ℕ → List ℕ
body_row_to to =
    71 ∷ 68 ∷ 79 ∷ 70 ∷ 3 ∷ 0 ∷ 0 ∷ 0 ∷ 7 ∷ 2 ∷ to ∷ 0 ∷ 0 ∷ 0 ∷ 1 ∷ 0 ∷ 0 ∷ 0 ∷ 0 ∷ 0 ∷ 1 ∷ record_check
    ++ 0 ∷ 0 ∷ 0 ∷ 0 ∷ 0 ∷ 0 ∷ 0 ∷ 0 ∷ 0 ∷ 0 ∷ 1 ∷ record_row

abbrev pub body_row : List ℕ
body_row = body_row_to 1

abbrev pub frame_row : List ℕ
frame_row = body_row ++ 73 ∷ 179 ∷ 77 ∷ 48 ∷ []

-- the same for site 3
abbrev pub frame_row_to_third : List ℕ
frame_row_to_third = body_row_to 3 ++ 27 ∷ 222 ∷ 150 ∷ 37 ∷ []

abbrev pub frame_value : Frame
frame_value =
    record {
      head = record { session = 7; from = 2; to = 1; ack = 0; count = 1; clock = 1; check = 0xBAFB18C2 };
      note = record { number = 0; name = None; focus = None };
      events = record_event ∷ [];
    }

-- why bytes are no frame, and how many of them stand from the fault's place on
abbrev pub misread : WireWhy → ℕ → Misread
misread why left = record { why = why; left = left }

-- The frame has 68 bytes: its event begins at byte 36, and its checksum at byte 64. These faults are found before the
-- checksum, or in it.
abbrev pub checked_faults : List (List ℕ × Misread)
checked_faults =
    -- not even a version
    ([], misread wire.Short 0)
    ∷ (take 4 frame_row, misread wire.Short 0)
    -- another magic, and versions 1, 2 and 4
    ∷ (set frame_row 0 0, misread wire.Magic 68)
    ∷ (set frame_row 4 1, misread wire.Version 64)
    ∷ (set frame_row 4 2, misread wire.Version 64)
    ∷ (set frame_row 4 4, misread wire.Version 64)
    -- longer than a frame may be, and so with another version
    ∷ (frame_row ++ replicate 1133 0, misread wire.Trailing 1)
    ∷ (set frame_row 4 2 ++ replicate 1133 0, misread wire.Version 1197)
    -- one bit is another: of the session, of the count, of the check of the sender's events, of the event's clock and
    -- of its width, and of the checksum's first and last byte
    ∷ (set frame_row 8 6, misread wire.Check 4)
    ∷ (set frame_row 14 3, misread wire.Check 4)
    ∷ (set frame_row 21 195, misread wire.Check 4)
    ∷ (set frame_row 36 128, misread wire.Check 4)
    ∷ (set frame_row 58 11, misread wire.Check 4)
    ∷ (set frame_row 64 72, misread wire.Check 4)
    ∷ (set frame_row 67 176, misread wire.Check 4)
    -- two bytes are exchanged
    ∷ (set (set frame_row 9 1) 10 2, misread wire.Check 4)
    -- cut, and with a byte too many
    ∷ (take 5 frame_row, misread wire.Check 4)
    ∷ (take 37 frame_row, misread wire.Check 4)
    ∷ (body_row, misread wire.Check 4)
    ∷ (frame_row ++ 0 ∷ [], misread wire.Check 4)
    ∷ []

-- These have their checksum, which stands behind the place of the fault.
abbrev pub frame_faults : List (List ℕ × Misread)
frame_faults =
    (with_checksum (take 37 body_row), misread wire.Short 4)
    -- within the check of the sender's events
    ∷ (with_checksum (take 24 body_row), misread wire.Short 4)
    -- site 17
    ∷ (with_checksum (set body_row 9 17), misread wire.Field 59)
    -- an event of another site, above the count, and above the clock
    ∷ (with_checksum (set body_row 42 1), misread wire.Disorder 32)
    ∷ (with_checksum (set body_row 14 0), misread wire.Disorder 32)
    ∷ (with_checksum (set body_row 20 0), misread wire.Disorder 32)
    -- the number 0, no kind, and a width of 1,000,001
    ∷ (with_checksum (set body_row 44 0), misread wire.Field 25)
    ∷ (with_checksum (set body_row 46 5), misread wire.Field 22)
    ∷ (with_checksum (set (set (set body_row 56 15) 57 66) 58 65), misread wire.Field 13)
    -- 68 events, a label that isn't there, and a byte between the event and the checksum
    ∷ (with_checksum (set body_row 35 68), misread wire.Field 33)
    ∷ (with_checksum (set body_row 63 1), misread wire.Short 4)
    ∷ (with_checksum (body_row ++ 0 ∷ []), misread wire.Trailing 5)
    ∷ []
