-- Worked rows of edits: what each becomes over what a site holds, and why it is refused.
use Rattle.std.specs.Prelude.{ℕ, pos, negsuc, true, List, [], ◌∷◌, ◌++◌, Result, Ok, Err}
use Rattle.gd_base.specs.declared.content.Content.TheVariants.{ToPlace, ToSize, ToFlag, ToRank}
use Rattle.gd_base.specs.declared.content.Height.TheVariants.{To}
use Rattle.gd_base.specs.declared.content.Side.TheVariants.{Bottom, Top}
use Rattle.gd_base.specs.declared.op.Op.TheVariants as op
use Rattle.gd_base.specs.declared.refusal.EditRefusal.{EditRefusal}
use Rattle.gd_base.specs.declared.refusal.EditRefusal.TheVariants as why
use Rattle.gd_events.specs.Ops.{Op}
use Rattle.gd_lines.specs.Edits.{Edit}
use Rattle.gd_reference.specs.SlowSite.{SlowSite}
use Rattle.gd_reference.specs.World.{Step, Edits, At, after}
use Rattle.gd_rows.specs.Worked.{at_stamp, event, member}
use Rattle.gd_rows.specs.WorkedWorlds.{new_rect, move_to, group_of, listener}

-- three rects, of which the first two are a group that was moved
abbrev pub grouped_steps : List Step
grouped_steps =
    At 1 (Edits (new_rect (pos 0)))
    ∷ At 1 (Edits (new_rect (pos 20)))
    ∷ At 1 (Edits (new_rect (pos 40)))
    ∷ At 1 (Edits (group_of 1 1 2 1))
    ∷ At 1 (Edits (move_to 4 1 5 7))
    ∷ []

abbrev pub grouped_site : SlowSite
grouped_site = (after 1 7 grouped_steps).at 1

abbrev pub grouped_edits : List (Edit × Result Op EditRefusal)
grouped_edits =
    -- a place is the one to be shown at, and the members of a group stand by their ids
    (move_to 1 1 50 50, Ok (op.Set (at_stamp 1 1) (ToPlace (pos 45) (pos 43))))
    ∷ (group_of 4 1 3 1, Ok (op.Group (member 3 1 (pos 0) (pos 0) ∷ member 4 1 (pos 0) (pos 0) ∷ [])))
    ∷ (op.Set (at_stamp 4 1) (ToRank Bottom), Ok (op.Set (at_stamp 4 1) (ToRank (To Bottom))))
    ∷ (op.Set (at_stamp 9 1) (ToRank Bottom), Err why.NoObject)
    ∷ (group_of 9 1 9 1, Err why.NoObject)
    ∷ (op.Set (at_stamp 4 1) (ToSize (pos 1) (pos 1)), Err why.NotShape)
    ∷ (op.Set (at_stamp 1 1) (ToFlag true), Err why.NotGroup)
    ∷ (op.Group (at_stamp 3 1 ∷ at_stamp 1 1 ∷ at_stamp 1 1 ∷ []), Err why.SameMember)
    ∷ (group_of 1 1 3 1, Err why.NotTop)
    ∷ []

-- the group is dissolved at the greatest place
abbrev pub far_steps : List Step
far_steps = grouped_steps
    ++ At 1 (Edits (move_to 4 1 1000000000 0)) ∷ At 1 (Edits (op.Set (at_stamp 4 1) (ToFlag true))) ∷ []

abbrev pub far_site : SlowSite
far_site = (after 1 7 far_steps).at 1

abbrev pub far_edits : List (Edit × Result Op EditRefusal)
far_edits = (
  group_of 1 1 2 1,
  Ok (op.Group (member 1 1 (pos 1000000000) (pos 0) ∷ member 2 1 (pos 1000000000) (pos 0) ∷ [])),
)
    ∷ (op.Set (at_stamp 4 1) (ToFlag true), Err why.NoObject)
    ∷ (op.Set (at_stamp 1 1) (ToPlace (negsuc 0) (pos 0)), Err why.TooFar)
    ∷ []

-- the two are grouped there, and that group is dissolved one place further
abbrev pub farther_steps : List Step
farther_steps =
    far_steps
    ++ At 1 (Edits (group_of 1 1 2 1))
    ∷ At 1 (Edits (move_to 8 1 1 0))
    ∷ At 1 (Edits (op.Set (at_stamp 8 1) (ToFlag true)))
    ∷ []

abbrev pub farther_site : SlowSite
farther_site = (after 1 7 farther_steps).at 1

-- ---- the last events of a clock and of a site

-- a site that holds an event of another site with that clock
abbrev pub listener_at : ℕ → SlowSite
listener_at clock = record listener { held = event clock 2 1 (op.Set (at_stamp 1 2) (ToRank (To Top))) ∷ [] }

abbrev pub raised : Op
raised = op.Set (at_stamp 1 1) (ToRank (To Top))
