use Rattle.std.proofs.Common.{◌∷◌, [], ◌++◌, codes}
use Rattle.gd_json.specs.Parts.{id_json, id_or_null}
use Rattle.gd_json.specs.PictureJson.{at_fields, body_fields}
use Rattle.gd_json.specs.Values.{Field}
use Rattle.gd_export.proofs.Puts.{put_last}
use Rattle.gd_export.proofs.picture.put_item.Goals as goal

pub returns : goal.returns
returns c =
    let item = c.args.item.now in
    let r = c.put_body.result in
    let id : Field = (codes "id", id_json item.id) in
    let parent : Field = (codes "in", id_or_null item.parent) in
    let at = at_fields item item.body in
    let body = body_fields item.body in
    put_last r _ _ _ (id ∷ []) (parent ∷ (at ++ body)) c.in_ok-id.ensures
    (put_last r _ _ _ (parent ∷ []) (at ++ body) c.in_ok-parent.ensures
    (put_last r _ _ _ at body c.in_ok-put_at.ensures c.put_body.ensures))
