use Rattle.std.specs.Prelude.{not}
use Rattle.std.proofs.lemmas.Bool.{and_parts}
use Rattle.std.proofs.lemmas.Str.{IsUtf8-from_is_utf8}
use Rattle.std.specs.Str.{is_utf8}
use Rattle.gd_base.specs.Labels.{has_strange}
use Rattle.gd_world.proofs.churning.drawing.label_of.Goals as goal

pub returns-in-Err : goal.returns-in-Err
returns-in-Err c =
    let text = c.args.bytes.now in
    let parts = and_parts (is_utf8 text) (not (has_strange text)) c.requires.plain in
    absurd (c.in-Err.ensures.cases.0 (IsUtf8-from_is_utf8 text parts.0))
