use Rattle.std.proofs.Common.{◌≡◌, rules}
use Rattle.std.specs.List.{filter}
use Rattle.std.proofs.lemmas.Fn.{filter_same}
use Rattle.gd_history.proofs.Pairs.{is_above, kept-above, fewer-above}
use Rattle.gd_history.proofs.sorted.Sorted.shed.Goals as goal

pub returns-clause-kept : goal.returns-clause-kept
returns-clause-kept c k s above h =
    let is : c.retain.new.self.keys ≡ filter (is_above c.args.line) c.self.inside.pairs.keys =
    filter_same _ (is_above c.args.line) _ (λ x b f' k. search rules) _ _ c.retain.ensures.filtered in
    rw (is) (kept-above c.args.line c.self.inside.pairs.keys k s above (rw (← c.self.view_is) at h))

pub returns-clause-fewer : goal.returns-clause-fewer
returns-clause-fewer c k s h =
    let is : c.retain.new.self.keys ≡ filter (is_above c.args.line) c.self.inside.pairs.keys =
    filter_same _ (is_above c.args.line) _ (λ x b f' k. search rules) _ _ c.retain.ensures.filtered in
    rw (← c.self.view_is) (fewer-above c.args.line c.self.inside.pairs.keys k s (rw (is) at h))
