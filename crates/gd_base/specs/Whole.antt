-- An object with its label as bytes, however that is kept.
use Rattle.std.specs.Prelude.{ℕ, List}
use Rattle.gd_base.specs.declared.object.Object as over

abbrev pub Object : Type 0
Object = over.Object (List ℕ)

-- the object with another label
abbrev pub labelled : {L M : Type 0} → over.Object L → M → over.Object M
labelled o label =
    record {
      kind = o.kind;
      x = o.x;
      y = o.y;
      w = o.w;
      h = o.h;
      look = o.look;
      label = label;
      ends = o.ends;
      link = o.link;
      dissolved = o.dissolved;
      rank = o.rank;
    }
