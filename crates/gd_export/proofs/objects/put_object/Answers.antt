use Rattle.std.proofs.Common.{◌∷◌, [], ◌++◌, codes}
use Rattle.gd_json.specs.EventsJson.{ends_fields, kind_or_group, state_of}
use Rattle.gd_json.specs.Parts.{style_fields, two}
use Rattle.gd_json.specs.Values.{quoted}
use Rattle.gd_export.proofs.Puts.{put_last, put_then}
use Rattle.gd_export.proofs.objects.put_object.Goals as goal

pub returns : goal.returns
returns c =
    let o = c.args.object.now in
    let size = (codes "size", two o.w o.h) ∷ (codes "label", quoted o.label) ∷ [] in
    let form = (codes "kind", kind_or_group o.kind) ∷ (codes "at", two o.x o.y) ∷ size in
    let style = style_fields o.look in
    let ends = ends_fields o.ends in
    let joined = put_then _ _ _ style ends c.in_ok-look.ensures c.in_ok-put_ends.ensures in
    let front = put_then _ _ _ form (style ++ ends) c.in_ok-put_form.ensures joined in
    put_last c.put_state.result _ _ _ (form ++ (style ++ ends)) (state_of o) front c.put_state.ensures
