use Rattle.std.proofs.Common.{◌∙◌, ℕ, List, ◌∷◌, [], ap, codes}
use Rattle.gd_json.specs.Parts.{id_json}
use Rattle.gd_json.specs.Values.{Field, plain, put_field, quoted}
use Rattle.gd_export.proofs.Puts.{put_last}
use Rattle.gd_export.proofs.picture.put_ends.Goals as goal

pub returns : goal.returns
returns c =
    let j = c.args.joined.now in
    let r = c.id-2.result in
    let kind : Field = (codes "kind", plain (codes "connector")) in
    let label : Field = (codes "label", quoted j.label) in
    let from : Field = (codes "from", id_json j.ends.from) in
    let to : Field = (codes "to", id_json j.ends.to) in
    let told = ap (λ (t : List ℕ). put_field c.word.new.self (codes "label", quoted t)) c.as_str.ensures.text in
    put_last r _ _ _ (kind ∷ []) (label ∷ from ∷ to ∷ []) c.in_ok-word.ensures
    (put_last r _ _ _ (label ∷ []) (from ∷ to ∷ []) (c.in_ok-label.ensures ∙ told)
    (put_last r _ _ _ (from ∷ []) (to ∷ []) c.in_ok-id.ensures c.id-2.ensures))
