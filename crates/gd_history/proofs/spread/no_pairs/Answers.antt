use Rattle.std.proofs.Common.{◌≡◌, ◌∙◌, ◌∷◌, [], ◌++◌, replicate, ap, arith}
use Rattle.std.proofs.lemmas.List.{replicate_more}
use Rattle.gd_history.proofs.spread.no_pairs.Goals as goal

pub loop-at-preserved : goal.loop-at-preserved
loop-at-preserved c =
    c.in_ok-push.ensures.items
    ∙ (λ i. c.loop-at.invariant i ++ c.new.ensures i ∷ [])
    ∙ replicate_more c.loop-at._at []

pub returns : goal.returns
returns c = let all : c.loop-at._at ≡ 251 = omega arith in c.loop-at.invariant ∙ ap (λ n. replicate n []) all
