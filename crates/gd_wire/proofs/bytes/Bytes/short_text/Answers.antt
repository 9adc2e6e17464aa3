use Rattle.gd_wire.proofs.Plain.{title_label}
use Rattle.gd_wire.proofs.bytes.Bytes.short_text.Goals as goal

pub from_str-requires : goal.from_str-requires
from_str-requires c = title_label _ _ c.as_str.ensures.text c.as_str.ensures.title
