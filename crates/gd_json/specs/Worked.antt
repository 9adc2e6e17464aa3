-- Worked rows: items and events, and their JSON, written by hand.
use Rattle.std.specs.Prelude.{ℕ, ℤ, pos, negsuc, List, [], ◌∷◌, ◌++◌, codes, Some, None, true, false}
use Rattle.gd_base.specs.Looks.{new_look, no_looks, only_fill, only_stroke, only_width}
use Rattle.gd_base.specs.Stamps.{Stamp}
use Rattle.gd_base.specs.declared.item.Body.TheVariants.{Shape, Joined, Group}
use Rattle.gd_base.specs.declared.item.Item.{Item}
use Rattle.gd_base.specs.declared.look.Align.TheVariants.{Middle, End}
use Rattle.gd_base.specs.declared.look.Dash.TheVariants.{Dashed, Dotted}
use Rattle.gd_base.specs.declared.look.Heads.TheVariants.{Bare, AtEnd, AtBoth}
use Rattle.gd_base.specs.declared.member.Member.{Member}
use Rattle.gd_base.specs.declared.shape.Shape.TheVariants.{Rect, Ellipse, Line, Text}
use Rattle.gd_base.specs.declared.content.Content.TheVariants as content
use Rattle.gd_base.specs.declared.content.Height.TheVariants.{To, At}
use Rattle.gd_base.specs.declared.content.Side.TheVariants.{Bottom, Top}
use Rattle.gd_base.specs.declared.op.Op.TheVariants.{Create, Delete, Set, Group as Grouped, Connect, Restore, Disband}
use Rattle.gd_base.specs.declared.object.Ends.{Ends}
use Rattle.gd_base.specs.declared.object.Kind.TheVariants as kinds
use Rattle.gd_base.specs.Whole.{Object}
use Rattle.gd_base.specs.declared.rank.Rank.TheVariants.{Low, High}
use Rattle.gd_base.specs.declared.ties.Tie.{Tie}
use Rattle.gd_events.specs.Ops.{Op}
use Rattle.gd_model.specs.Objects.{new_connector}
use Rattle.gd_events.specs.Events.{Event}

abbrev pub at_stamp : ℕ → ℕ → Stamp
at_stamp clock site = record { clock = clock; site = site }

abbrev pub event : ℕ → ℕ → ℕ → Op → Event
event clock site number op = record { stamp = at_stamp clock site; number = number; op = op }

abbrev pub member : ℕ → ℕ → ℤ → ℤ → Member
member clock site dx dy = record { id = at_stamp clock site; dx = dx; dy = dy }

-- two events of one clock: a rect of site 2, and then an ellipse of site 1
abbrev pub tie_events : List Event
tie_events =
    event 1 2 1 (Create Rect (pos 5) (pos 5) (pos 10) (pos 10) [])
    ∷ event 1 1 1 (Create Ellipse (pos 0) (pos 0) (pos 20) (pos 20) [])
    ∷ []

abbrev pub tie_picture_json : List ℕ
tie_picture_json =
    codes "[{\"at\":[0,0],\"fill\":null,\"id\":\"1.1\",\"in\":null,\"kind\":\"ellipse\",\"label\":\"\",\"size\":[20,20],\"stroke\":\"000000\",\"width\":1},"
    ++ codes "{\"at\":[5,5],\"fill\":null,\"id\":\"1.2\",\"in\":null,\"kind\":\"rect\",\"label\":\"\",\"size\":[10,10],\"stroke\":\"000000\",\"width\":1}]\n"

abbrev pub tie_events_json : List ℕ
tie_events_json =
    codes "[{\"clock\":1,\"h\":10,\"kind\":\"rect\",\"label\":\"\",\"op\":\"create\",\"seq\":1,\"site\":2,\"w\":10,\"x\":5,\"y\":5},"
    ++ codes "{\"clock\":1,\"h\":20,\"kind\":\"ellipse\",\"label\":\"\",\"op\":\"create\",\"seq\":1,\"site\":1,\"w\":20,\"x\":0,\"y\":0}]\n"

-- a quote, a backslash, a letter of two bytes, the last character of all, and a slash and a space, which have no marks
abbrev pub odd_label : List ℕ
odd_label = codes "a\"b\\" ++ 195 ∷ 169 ∷ 244 ∷ 143 ∷ 191 ∷ 191 ∷ codes "/ "

abbrev pub odd_label_json : List ℕ
odd_label_json = codes "\"a\\\"b\\\\" ++ 195 ∷ 169 ∷ 244 ∷ 143 ∷ 191 ∷ 191 ∷ codes "/ \""

-- a shape in a group, with a fill, and that group in another
abbrev pub filled_line : Item
filled_line = record {
  id = at_stamp 281474976710655 16;
  parent = Some (at_stamp 9 2);
  at = record { x = negsuc 4294967295; y = pos 7 };
  body = Shape record {
    kind = Line;
    w = negsuc 9;
    h = pos 0;
    look = record (new_look Bare) { stroke = 0x00AB0C; fill = Some 0xFF8000; width = 64 };
    label = odd_label;
  };
}

abbrev pub inner_group : Item
inner_group = record {
  id = at_stamp 9 2;
  parent = Some (at_stamp 12 1);
  at = record { x = negsuc 2; y = pos 4 };
  body
      = Group;
}

-- a shape with a label, in no group and with no fill
abbrev pub lone_text : Item
lone_text = record {
  id = at_stamp 3 1;
  parent = None;
  at = record { x = pos 1; y = pos 2 };
  body = Shape record {
    kind = Text;
    w = pos 3;
    h = pos 4;
    look = record (new_look Bare)
        { stroke = 0x0A0B0C; width = 5; round = Some 0; letters = Some 24; align = Some Middle };
    label = codes "none";
  };
}

-- a connector, with a label of two lines
abbrev pub arrow_ends : Ends
arrow_ends = record { from = at_stamp 3 1; to = at_stamp 9 2 }

abbrev pub two_lines : List ℕ
two_lines = codes "a" ++ 10 ∷ codes "b"

abbrev pub arrow : Item
arrow = record {
  id = at_stamp 5 1;
  parent = None;
  at = record { x = pos 0; y = pos 0 };
  body = Joined record {
    ends = arrow_ends;
    look = record (new_look AtEnd) { dash = Dotted; opacity = 50 };
    label
        = two_lines;
  };
}

-- items, each with its JSON
abbrev pub items_of_json : List (Item × List ℕ)
items_of_json = (
  filled_line,
  codes "{\"at\":[-4294967296,7],\"fill\":\"FF8000\",\"id\":\"281474976710655.16\",\"in\":\"9.2\",\"kind\":\"line\",\"label\":" ++ odd_label_json
      ++ codes ",\"size\":[-10,0],\"stroke\":\"00AB0C\",\"width\":64}",
)
    ∷ (inner_group, codes "{\"at\":[-3,4],\"id\":\"9.2\",\"in\":\"12.1\",\"kind\":\"group\"}")
    ∷ (lone_text, codes "{\"align\":\"middle\",\"at\":[1,2],\"fill\":null,\"id\":\"3.1\",\"in\":null,\"kind\":\"text\",\"label\":\"none\",\"letters\":24,\"round\":0,\"size\":[3,4],\"stroke\":\"0A0B0C\",\"width\":5}")
    ∷ (arrow, codes "{\"dash\":\"dotted\",\"fill\":null,\"from\":\"3.1\",\"heads\":\"end\",\"id\":\"5.1\",\"in\":null,\"kind\":\"connector\",\"label\":\"a\\nb\",\"opacity\":50,\"stroke\":\"000000\",\"to\":\"9.2\",\"width\":1}")
    ∷ []

-- a shape in a group, and a dissolved group in none
abbrev pub old_shape : Object
old_shape = record {
  kind = kinds.Shape Line;
  x = pos 1;
  y = negsuc 1;
  w = pos 3;
  h = pos 4;
  look = record (new_look Bare) { stroke = 0x0A0B0C; fill = Some 0xFF8000; width = 5 };
  label = odd_label;
  ends = None;
  link = Some record { parent = at_stamp 9 2; dx = pos 6; dy = negsuc 6 };
  dissolved = false;
  rank = Low (at_stamp 8 1);
}

abbrev pub old_group : Object
old_group = record {
  kind = kinds.Group;
  x = pos 0;
  y = pos 0;
  w = pos 0;
  h = pos 0;
  look = new_look Bare;
  label = [];
  ends = None;
  link = None;
  dissolved = true;
  rank = High (at_stamp 9 2);
}

-- the connector, with all looks set
abbrev pub old_arrow : Object
old_arrow = record (new_connector (at_stamp 5 1) arrow_ends two_lines) {
  look = record (new_look AtBoth)
      { dash = Dashed; round = Some 1000000; opacity = 1; letters = Some 1; align = Some End };
}

-- two ties, of which one leads to no group
abbrev pub old_ties : List Tie
old_ties = record { id = at_stamp 2 1; link = None }
    ∷ record { id = at_stamp 7 3; link = Some record { parent = at_stamp 9 2; dx = pos 10; dy = pos 0 } } ∷ []

abbrev pub old_ties_json : List ℕ
old_ties_json = codes
    "\"ties\":[{\"id\":\"2.1\",\"link\":null},{\"id\":\"7.3\",\"link\":{\"dx\":10,\"dy\":0,\"id\":\"9.2\"}}]"

-- each operation, with the JSON of its event
abbrev pub events_of_json : List (Event × List ℕ)
events_of_json = (
  event 7 3 1 (Create Text (negsuc 4) (pos 6) (pos 7) (negsuc 7) odd_label),
  codes "{\"clock\":7,\"h\":-8,\"kind\":\"text\",\"label\":" ++ odd_label_json
      ++ codes ",\"op\":\"create\",\"seq\":1,\"site\":3,\"w\":7,\"x\":-5,\"y\":6}",
)
    ∷ (
      event 8 3 2 (Delete (at_stamp 7 16)),
      codes
          "{\"clock\":8,\"id\":\"7.16\",\"op\":\"delete\",\"seq\":2,\"site\":3}",
    )
    ∷ (
      event 9 3 3 (Set (at_stamp 7 3) (content.ToPlace (pos 2147483647) (negsuc 2147483646))),
      codes
          "{\"clock\":9,\"id\":\"7.3\",\"op\":\"move\",\"seq\":3,\"site\":3,\"x\":2147483647,\"y\":-2147483647}",
    )
    ∷ (
      event 10 3 4 (Set (at_stamp 7 3) (content.ToSize (pos 11) (pos 12))),
      codes
          "{\"clock\":10,\"h\":12,\"id\":\"7.3\",\"op\":\"resize\",\"seq\":4,\"site\":3,\"w\":11}",
    )
    ∷ (
      event 11 3 5 (Set (at_stamp 7 3) (content.ToLooks (only_stroke 0x00AB0C))),
      codes
          "{\"clock\":11,\"id\":\"7.3\",\"op\":\"restyle\",\"seq\":5,\"site\":3,\"stroke\":\"00AB0C\"}",
    )
    ∷ (
      event 12 3 6 (Set (at_stamp 7 3) (content.ToLooks (only_fill (Some 0)))),
      codes
          "{\"clock\":12,\"fill\":\"000000\",\"id\":\"7.3\",\"op\":\"restyle\",\"seq\":6,\"site\":3}",
    )
    ∷ (
      event 13 3 7 (Set (at_stamp 7 3) (content.ToLooks (only_fill None))),
      codes
          "{\"clock\":13,\"fill\":null,\"id\":\"7.3\",\"op\":\"restyle\",\"seq\":7,\"site\":3}",
    )
    ∷ (
      event 14 3 8 (Set (at_stamp 7 3) (content.ToLooks (only_width 64))),
      codes
          "{\"clock\":14,\"id\":\"7.3\",\"op\":\"restyle\",\"seq\":8,\"site\":3,\"width\":64}",
    )
    ∷ (
      event 15 3 9 (Set (at_stamp 7 3) (content.ToText odd_label)),
      codes "{\"clock\":15,\"id\":\"7.3\",\"label\":"
          ++ odd_label_json ++ codes ",\"op\":\"retext\",\"seq\":9,\"site\":3}",
    )
    ∷ (
      event 16 3 10 (Grouped (member 2 1 (pos 0) (negsuc 8) ∷ member 7 3 (pos 10) (pos 0) ∷ [])),
      codes "{\"clock\":16,\"members\":[{\"dx\":0,\"dy\":-9,\"id\":\"2.1\"},{\"dx\":10,\"dy\":0,\"id\":\"7.3\"}],\"op\":\"group\",\"seq\":10,\"site\":3}",
    )
    ∷ (
      event 17 3 11 (Set (at_stamp 16 3) (content.ToFlag true)),
      codes
          "{\"clock\":17,\"id\":\"16.3\",\"op\":\"ungroup\",\"seq\":11,\"site\":3}",
    )
    ∷ (
      event 18 3 12 (Set (at_stamp 7 3) (content.ToRank (To Top))),
      codes
          "{\"clock\":18,\"id\":\"7.3\",\"op\":\"raise\",\"seq\":12,\"site\":3}",
    )
    ∷ (
      event 19 3 13 (Restore (at_stamp 7 3) old_shape []),
      codes "{\"at\":[1,-2],\"clock\":19,\"dissolved\":false,\"fill\":\"FF8000\",\"id\":\"7.3\",\"kind\":\"line\",\"label\":" ++ odd_label_json
          ++ codes ",\"link\":{\"dx\":6,\"dy\":-7,\"id\":\"9.2\"},\"op\":\"restore\",\"rank\":{\"low\":\"8.1\"},\"seq\":13,\"site\":3,\"size\":[3,4],\"stroke\":\"0A0B0C\",\"ties\":[],\"width\":5}",
    )
    ∷ (
      event 20 3 14 (Restore (at_stamp 9 2) old_group old_ties),
      codes "{\"at\":[0,0],\"clock\":20,\"dissolved\":true,\"fill\":null,\"id\":\"9.2\",\"kind\":\"group\",\"label\":\"\",\"link\":null,\"op\":\"restore\",\"rank\":{\"high\":\"9.2\"},"
          ++ codes "\"seq\":14,\"site\":3,\"size\":[0,0],\"stroke\":\"000000\"," ++ old_ties_json
          ++ codes ",\"width\":1}",
    )
    ∷ (
      event 20 3 14 (Restore (at_stamp 5 1) old_arrow []),
      codes "{\"align\":\"end\",\"at\":[0,0],\"clock\":20,\"dash\":\"dashed\",\"dissolved\":false,\"fill\":null,\"from\":\"3.1\",\"heads\":\"both\",\"id\":\"5.1\",\"kind\":\"connector\","
          ++ codes "\"label\":\"a\\nb\",\"letters\":1,\"link\":null,\"op\":\"restore\",\"opacity\":1,\"rank\":{\"high\":\"5.1\"},\"round\":1000000,\"seq\":14,\"site\":3,"
          ++ codes "\"size\":[0,0],\"stroke\":\"000000\",\"ties\":[],\"to\":\"9.2\",\"width\":1}",
    )
    ∷ (
      event 20 3 14 (Connect arrow_ends two_lines),
      codes
          "{\"clock\":20,\"from\":\"3.1\",\"label\":\"a\\nb\",\"op\":\"connect\",\"seq\":14,\"site\":3,\"to\":\"9.2\"}",
    )
    ∷ (
      event 20 3 14 (Set (at_stamp 5 1) (content.ToEnds (Some arrow_ends))),
      codes
          "{\"clock\":20,\"from\":\"3.1\",\"id\":\"5.1\",\"op\":\"reconnect\",\"seq\":14,\"site\":3,\"to\":\"9.2\"}",
    )
    ∷ (
      event 20 3 14 (Set (at_stamp 5 1)
          (content.ToLooks
          (record no_looks { stroke = Some 1; round = Some None; letters = Some None; align = Some None }))),
      codes "{\"align\":null,\"clock\":20,\"id\":\"5.1\",\"letters\":null,\"op\":\"restyle\",\"round\":null,\"seq\":14,\"site\":3,\"stroke\":\"000001\"}",
    )
    ∷ (
      event 21 3 15 (Disband (at_stamp 9 2) old_ties),
      codes
          "{\"clock\":21,\"id\":\"9.2\",\"op\":\"disband\",\"seq\":15,\"site\":3," ++ old_ties_json ++ codes "}",
    )
    ∷ (
      event 22 3 16 (Set (at_stamp 7 3) (content.ToRank (At (High (at_stamp 7 3))))),
      codes
          "{\"clock\":22,\"id\":\"7.3\",\"op\":\"rerank\",\"rank\":{\"high\":\"7.3\"},\"seq\":16,\"site\":3}",
    )
    ∷ (
      event 23 3 17 (Set (at_stamp 9 2) (content.ToFlag false)),
      codes
          "{\"clock\":23,\"id\":\"9.2\",\"op\":\"reopen\",\"seq\":17,\"site\":3}",
    )
    ∷ (
      event 281474976710655 16 65535 (Set (at_stamp 7 3) (content.ToRank (To Bottom))),
      codes
          "{\"clock\":281474976710655,\"id\":\"7.3\",\"op\":\"lower\",\"seq\":65535,\"site\":16}",
    )
    ∷ []
