use Rattle.std.proofs.Common.{FitsSigned, w32, rules, codes}
use Rattle.std.proofs.lemmas.Int.{to_z-of_z}
use Rattle.gd_lines.specs.OpText.{spaced, two_text, behind_text}
use Rattle.gd_lines.specs.Text.{shape_word}
use Rattle.gd_words.proofs.Appended.{five_more}
use Rattle.gd_words.proofs.ops.push_op.Goals as goal

pub returns-in-Create-clause-value : goal.returns-in-Create-clause-value
returns-in-Create-clause-value c =
    let x : FitsSigned w32 c.in-Create.x = search rules in
    let y : FitsSigned w32 c.in-Create.y = search rules in
    let w : FitsSigned w32 c.in-Create.w = search rules in
    let h : FitsSigned w32 c.in-Create.h = search rules in
    let boxed = simp to_z-of_z at c.push_box.ensures.value in
    rw (c.in-Create.is, c.push_behind.ensures.value, boxed, c.push_shape.ensures.value, c.word.ensures.value)
    (five_more c.args.text.now (codes "create") (spaced (shape_word c.in-Create.kind))
    (two_text c.in-Create.x c.in-Create.y)
    (two_text c.in-Create.w c.in-Create.h) (behind_text c.in-Create.label))
