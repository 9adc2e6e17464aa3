-- Fields that are put one list behind the other.
use Rattle.std.proofs.Common.{◌≡◌, ◌∙◌, List, ◌++◌, Result, sym, ap}
use Rattle.std.specs.Prelude.{OnOk}
use Rattle.std.proofs.lemmas.List.Sums.{fold-append}
use Rattle.std.proofs.lemmas.Result.{on_ok_weaker}
use Rattle.gd_json.specs.Values.{Field, put_all, put_field}

pub put_then : (f g h xs ys : List Field) → g ≡ put_all f xs → h ≡ put_all g ys → h ≡ put_all f (xs ++ ys)
put_then f g h xs ys first then =
    then ∙ ap (λ (fs : List Field). put_all fs ys) first ∙ sym (fold-append put_field f xs ys)

-- where the others could be put
pub put_last : {A E : Type 0} (r : Result A E) (f g h xs ys : List Field) → g ≡ put_all f xs → OnOk r (h ≡ put_all g ys)
    → OnOk r (h ≡ put_all f (xs ++ ys))
put_last r f g h xs ys first then = on_ok_weaker r (λ e. put_then f g h xs ys first e) then
