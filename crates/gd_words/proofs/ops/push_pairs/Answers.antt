use Rattle.gd_words.proofs.Parts.{pairs_told}
use Rattle.gd_words.proofs.ops.push_pairs.Goals as goal

pub returns-clause-value : goal.returns-clause-value
returns-clause-value c =
    rw (
      c.push_align_part.ensures.value,
      c.push_size_part.ensures.value,
      c.push_number_part-2.ensures.value,
      c.push_round_part.ensures.value,
      c.push_heads_part.ensures.value,
      c.push_dash_part.ensures.value,
      c.push_number_part.ensures.value,
      c.push_fill_part.ensures.value,
      c.push_stroke_part.ensures.value,
    ) (pairs_told c.args.text.now c.args.id.now c.args.looks.now)
