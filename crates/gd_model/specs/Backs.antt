-- What takes an operation back: its before-value, as an operation that an event at any stamp may have. It names what
-- was there as it was: nothing is made anew, and no id and no rank is new. So the back of a raise is the old rank, the
-- back of that is the rank that the raise gave, and the back of a group takes the group away and gives each member the
-- link that it had.
use Rattle.std.specs.Prelude.{List, [], ◌∷◌, unwrap_or}
use Rattle.std.specs.FinMap as map_of
use Rattle.gd_base.specs.Contents.{content_map}
use Rattle.gd_base.specs.Stamps.{Stamp}
use Rattle.gd_base.specs.declared.content.Height.TheVariants.{At}
use Rattle.gd_base.specs.declared.op.Op.TheVariants.{Delete, Set, Restore, Disband}
use Rattle.gd_base.specs.declared.ties.Tie.{Tie}
use Rattle.gd_events.specs.Ops.{Op}
use Rattle.gd_model.specs.Board.{Board}
use Rattle.gd_model.specs.Forms.{form}
use Rattle.gd_model.specs.Undoing.{before_by}
use Rattle.gd_model.specs.declared.form.Form.{Form}
use Rattle.gd_model.specs.declared.form.Form.TheVariants.{Sets, Puts, Takes}

-- what takes the object away, and ties others
abbrev pub taking : Stamp → List Tie → Op
taking id [] = Delete id
taking id (t ∷ ts) = Disband id (t ∷ ts)

-- the operation of a form
abbrev pub op_of : Form → Op
op_of (Sets id content) = Set id (content_map (λ label. label) (λ looks. looks) At content)
op_of (Puts id object ties) = Restore id object ties
op_of (Takes id ties) = taking id ties

-- what takes an operation at that stamp back, on a board: its before-value, or the operation again where it changes
-- nothing
unfoldable pub back : Stamp → Op → Board → Op
back stamp op b = let f = form stamp op in op_of (unwrap_or (before_by f (map_of.get b)) f)
