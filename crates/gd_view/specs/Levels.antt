-- The levels of the objects, and the items that are listed by them.
use Rattle.std.specs.Prelude.{Option, None, Some}
use Rattle.gd_base.specs.Stamps.{Stamp}
use Rattle.gd_base.specs.Whole.{Object}
use Rattle.gd_model.specs.Drawing.{Drawing}
use Rattle.gd_model.specs.Shown.{shown}
use Rattle.gd_base.specs.declared.item.Item.{Item}
use Rattle.gd_base.specs.declared.rank.Level.{Level}
use Rattle.gd_base.specs.Ranks.{level}

-- the level of an object
abbrev pub level_of : Stamp × Object → Level
level_of e = level e.1.rank e.0

-- the item of an object of that id, where it is there and shown
abbrev pub item_of : Drawing → Stamp → Option Object → Option Item
item_of d id None = None
item_of d id (Some b) = shown d (id, b)
