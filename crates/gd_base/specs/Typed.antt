-- What the types of ranks, links, ends, ties and objects say of their values: their stamps are stamps, and labels are
-- labels.
use Rattle.std.specs.Prelude.{List, All, Option, IfSome}
use Rattle.gd_base.specs.Labels.{IsLabel}
use Rattle.gd_base.specs.Ranks.{given_at}
use Rattle.gd_base.specs.Stamps.{IsStamp}
use Rattle.gd_base.specs.Whole.{Object}
use Rattle.gd_base.specs.declared.object.Ends.{Ends}
use Rattle.gd_base.specs.declared.object.Link.{Link}
use Rattle.gd_base.specs.declared.ties.Tie.{Tie}

-- a link leads to a stamp
abbrev pub IsLinked : Option Link → Type 0
IsLinked link = IfSome link (λ l. IsStamp l.parent)

-- the ends of a connector are stamps
abbrev pub AreEnds : Option Ends → Type 0
AreEnds ends = IfSome ends (λ e. IsStamp e.from × IsStamp e.to)

abbrev pub AreTied : List Tie → Type 0
AreTied ties = All (λ t. IsStamp t.id × IsLinked t.link) ties

pub record IsObject (o : Object) : Type 0 where
  pub label : IsLabel o.label
  pub ends : AreEnds o.ends
  pub link : IsLinked o.link
  pub rank : IsStamp (given_at o.rank)
