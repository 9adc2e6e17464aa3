use Rattle.std.proofs.Common.{rules}
use Rattle.gd_outside.proofs.TextLemmas.{stand_push, texts_push}
use Rattle.gd_outside.proofs.memory.texts.Texts.push.Goals as goal

pub invariant_of-self : goal.invariant_of-self
invariant_of-self c = search (rules, stand_push)

pub returns : goal.returns
returns c = search (rules, texts_push)
