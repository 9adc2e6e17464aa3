-- What is set by looks that are packed.
use Rattle.gd_base.specs.Looks.{only_fill, only_stroke, only_width}
use Rattle.gd_base.specs.declared.look.Looks.{Looks}
use Rattle.gd_events.specs.declared.packed_looks.Packing.{Packing}
use Rattle.gd_events.specs.declared.packed_looks.Packing.TheVariants.{Width, Stroke, Fill, Many}

abbrev pub packed_looks : Packing → Looks
packed_looks (Width width) = only_width width
packed_looks (Stroke stroke) = only_stroke stroke
packed_looks (Fill fill) = only_fill fill
packed_looks (Many looks) = looks.value
