use Rattle.std.proofs.Common.{◌≡◌, List, ◌∷◌, take, ap, ◌∙◌, arith}
use Rattle.gd_events.specs.Ops.{Op}
use Rattle.gd_takeback.proofs.Newest.{seen, seen-few, seen-full, seen-more}
use Rattle.gd_takeback.specs.Lists.{BackListValue}
use Rattle.gd_takeback.specs.Seen.{newest_first}
use Rattle.gd_takeback.proofs.back_list.BackList.keep.Goals as goal
use Rattle.gd_takeback.proofs.back_list.BackList.keep.Goals.{then-len-eq-MOST_BACKS, else-len-eq-MOST_BACKS}

pub returns : goal.returns
returns c =
    let items = c.self.inside.gestures.items in
    let room : seen newest_first c.if-len-eq-MOST_BACKS.self-inside.gestures.items
    ≡ take 1023 (seen newest_first items) =
    elim c.if-len-eq-MOST_BACKS.branch [
      | then-len-eq-MOST_BACKS w ↦
          rw (w.self-inside-is, w.drop_oldest.ensures.items) (seen-full newest_first 1023 items (omega arith))
      | else-len-eq-MOST_BACKS w ↦ rw w.self-inside-is (seen-few newest_first 1023 items (omega arith))
    ] in
    ap (seen newest_first) c.push_back_reserved.ensures.items
    ∙ seen-more newest_first c.if-len-eq-MOST_BACKS.self-inside.gestures.items c.args.back
    ∙ ap (λ (all : List (List Op)). newest_first c.args.back ∷ all) room
    ∙ ap (λ (v : BackListValue). newest_first c.args.back ∷ take 1023 v.gestures) c.self.view_is
