use Rattle.std.proofs.Common.{FitsSigned, w32, rules}
use Rattle.std.proofs.lemmas.Int.{to_z-of_z}
use Rattle.gd_lines.specs.OpText.{whole_text}
use Rattle.gd_words.proofs.Appended.{eight_more}
use Rattle.gd_words.proofs.ops.push_whole.Goals as goal

pub returns-clause-value : goal.returns-clause-value
unfolding whole_text
returns-clause-value c =
    let x : FitsSigned w32 c.args.object.now.x = search rules in
    let y : FitsSigned w32 c.args.object.now.y = search rules in
    let w : FitsSigned w32 c.args.object.now.w = search rules in
    let h : FitsSigned w32 c.args.object.now.h = search rules in
    let boxed = simp to_z-of_z at c.push_box.ensures.value in
    rw (
      c.push_marks.ensures.value,
      c.push_look.ensures.value,
      boxed,
      c.push_ends.ensures.value,
      c.push_kind.ensures.value,
    )
    (eight_more c.args.text.now _ _ _ _ _ _ _ _)
