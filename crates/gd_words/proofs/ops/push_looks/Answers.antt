use Rattle.gd_words.proofs.Parts.{lone_line, others_line}
use Rattle.gd_words.proofs.ops.push_looks.Goals as goal

pub returns-then-count-eq1-clause-value : goal.returns-then-count-eq1-clause-value
returns-then-count-eq1-clause-value c =
    lone_line _ _ _ _ _ c.count_of-count.ensures c.if-count-eq1.true c.push_pairs.ensures.value

pub returns-clause-value : goal.returns-clause-value
returns-clause-value c =
    others_line _ _ _ _ _ _ c.count_of-count.ensures c.if-count-eq1.false c.push_command.ensures.value
    c.push_pairs-2.ensures.value
