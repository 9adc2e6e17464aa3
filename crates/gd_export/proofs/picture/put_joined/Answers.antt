use Rattle.std.proofs.Common.{List, ◌∷◌, [], codes}
use Rattle.gd_json.specs.Parts.{id_json, style_fields}
use Rattle.gd_json.specs.Values.{Field, plain, quoted}
use Rattle.gd_export.proofs.Puts.{put_last}
use Rattle.gd_export.proofs.picture.put_joined.Goals as goal

pub returns : goal.returns
returns c =
    let j = c.args.joined.now in
    let ends : List Field = (codes "from", id_json j.ends.from) ∷ (codes "to", id_json j.ends.to) ∷ [] in
    let front : List Field = (codes "kind", plain (codes "connector")) ∷ (codes "label", quoted j.label) ∷ ends in
    put_last c.look.result _ _ _ front (style_fields j.look) c.in_ok-put_ends.ensures c.look.ensures
