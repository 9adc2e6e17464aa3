use Rattle.std.proofs.Common.{◌≡◌, ◌-◌}
use Rattle.gd_base.specs.Looks.{no_looks}
use Rattle.gd_lines.specs.Edits.{looks_at}
use Rattle.gd_words.proofs.edits.looks.Given as goal

abbrev pub invariant-loop : goal.invariant-loop
invariant-loop l = looks_at l.fn.count no_looks l.fn.words ≡ looks_at (l.count - l.counter) l.looks l.words
