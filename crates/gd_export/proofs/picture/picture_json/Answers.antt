use Rattle.std.proofs.Common.{◌∷◌, [], ◌++◌, ℕ, List, arith, map, subst, take}
use Rattle.gd_json.specs.PictureJson.{item_json}
use Rattle.gd_export.specs.Begun.{IsBegun}
use Rattle.gd_export.proofs.Begin.{begun_next}
use Rattle.gd_export.proofs.picture.picture_json.Goals as goal

pub loop-item-preserved : goal.loop-item-preserved
loop-item-preserved c =
    let items = c.as_slice-item-items.result.now in
    let told = map item_json (take c.loop-item.item-index items) in
    let put = subst (λ (t : List ℕ). IsBegun c.put.new.self (told ++ t ∷ [])) c.in_ok-json.ensures
    (c.in_ok-put.ensures told c.loop-item.invariant) in
    begun_next item_json items c.loop-item.item-index c.item-item.result c.put.new.self put c.item-item.is (omega arith)
