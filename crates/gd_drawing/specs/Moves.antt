-- The drawing as a list whose order isn't read off ranks: what is made and what is raised goes to the end, and what is
-- lowered to the front. It is so where nothing is put back as it was.
use Rattle.std.specs.Prelude.{◌≡◌, Bool, true, false, if◌then◌else◌, List, [], ◌∷◌, ◌++◌, map, fold}
use Rattle.std.specs.List.{filter, AllByRecursion}
use Rattle.gd_events.specs.Events.{Event}
use Rattle.gd_events.specs.Ordered.{ordered}
use Rattle.gd_events.specs.Ops.{Op}
use Rattle.gd_base.specs.declared.content.Content.TheVariants.{ToRank}
use Rattle.gd_base.specs.declared.content.Height.TheVariants.{At}
use Rattle.gd_base.specs.declared.op.Op.TheVariants.{Set, Restore, Disband}
use Rattle.gd_model.specs.declared.form.Form.{Form}
use Rattle.gd_model.specs.declared.form.Form.TheVariants.{Sets, Puts, Takes}
use Rattle.gd_base.specs.declared.rank.Rank.{Rank}
use Rattle.gd_base.specs.declared.rank.Rank.TheVariants.{Low, High}
use Rattle.gd_model.specs.Forms.{form}
use Rattle.gd_model.specs.Objects.{own_ties, put, set}
use Rattle.gd_model.specs.Drawing.{Drawing, has_id, is_there, at_id, without, all_tied}

-- the operation gives no rank, and no links, that objects had
abbrev pub is_fresh : Op → Bool
is_fresh (Set id (ToRank (At rank))) = false
is_fresh (Restore id object ties) = false
is_fresh (Disband id ties) = false
is_fresh op = true

abbrev pub AreFresh : List Event → Type 0
AreFresh events = AllByRecursion (λ e. is_fresh e.op ≡ true) events

abbrev pub moved : Form → Drawing → Drawing
moved (Sets id (ToRank (High s))) d = without id d ++ filter (has_id id) d
moved (Sets id (ToRank (Low s))) d = filter (has_id id) d ++ without id d
moved (Sets id c) d = at_id id (set c) d
moved (Puts id o ties) d = if is_there id d then d else all_tied (own_ties o.kind ties) d ++ (id, o) ∷ []
moved (Takes id ties) d = without id d

abbrev pub moved_event : Drawing → Event → Drawing
moved_event d e = moved (form e.stamp e.op) d

abbrev pub moved_picture : List Event → Drawing
moved_picture events = fold moved_event [] (ordered events)

-- the drawing with one rank for all objects
abbrev pub unranked : Rank → Drawing → Drawing
unranked rank d = map (λ e. (e.0, put (ToRank rank) e.1)) d
