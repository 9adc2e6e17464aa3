-- An object as it is shown is what the judgement of an edit sees.
use Rattle.std.proofs.Common.{◌≡◌, Bool, true, false, cond, Option, Some, None, refl}
use Rattle.std.specs.Prelude.{option_map}
use Rattle.std.specs.FinMap as map_of
use Rattle.gd_base.specs.Stamps.{Stamp, stamp_cmp}
use Rattle.gd_model.specs.Drawing.{Drawing}
use Rattle.gd_model.specs.declared.above.Above.{Above}
use Rattle.gd_base.specs.Whole.{Object}
use Rattle.gd_model.specs.Shown.{above, has_ends, is_gone, found_as}
use Rattle.gd_reference.specs.Judging.{target_at, target}
use Rattle.gd_view.specs.Seen.{seen, shown_at}
use Rattle.gd_judging.specs.Targets.{told}

told_above : (o : Object) (between gone : Bool) (a : Option Above)
    → option_map told (cond between (option_map (shown_at o) (cond gone None a)) None)
    ≡ cond between (option_map (target_at o) (cond gone None a)) None
told_above o false gone a = refl
told_above o true true a = refl
told_above o true false None = refl
told_above o true false (Some a) = refl

told_found : (d : Drawing) (id : Stamp) (x : Option Object)
    → option_map told (found_as shown_at d id x) ≡ found_as target_at d id x
told_found d id None = refl
told_found d id (Some o) = told_above o (has_ends d o) (is_gone o) (above d id o.link)

pub told_is_target : (d : Drawing) (id : Stamp) → option_map told (seen d id) ≡ target d id
told_is_target d id = told_found d id (map_of.find stamp_cmp id d)
