use Rattle.std.proofs.Common.{◌∷◌, [], ◌++◌, codes}
use Rattle.std.specs.Prelude.{decimal}
use Rattle.gd_json.specs.Parts.{align_field, colour_json, colour_or_null, dash_field, heads_field, letters_field}
use Rattle.gd_json.specs.Parts.{opacity_field}
use Rattle.gd_json.specs.Parts.{round_field}
use Rattle.gd_json.specs.Values.{Field}
use Rattle.gd_export.proofs.Puts.{put_then}
use Rattle.gd_export.proofs.values.Fields.look.Goals as goal

pub returns : goal.returns
returns c =
    let l = c.args.look.now in
    let stroke : Field = (codes "stroke", colour_json l.stroke) in
    let fill : Field = (codes "fill", colour_or_null l.fill) in
    let width : Field = (codes "width", decimal l.width) in
    let to_heads = dash_field l.dash ++ heads_field l.heads in
    let to_round = to_heads ++ round_field l.round in
    let to_opacity = to_round ++ opacity_field l.opacity in
    let to_letters = to_opacity ++ letters_field l.letters in
    let all = to_letters ++ align_field l.align in
    let dash = c.in_ok-own_dash.ensures in
    let heads = put_then _ _ _ (dash_field l.dash) (heads_field l.heads) dash c.in_ok-own_heads.ensures in
    let round = put_then _ _ _ to_heads (round_field l.round) heads c.in_ok-own_round.ensures in
    let opacity = put_then _ _ _ to_round (opacity_field l.opacity) round c.in_ok-own_opacity.ensures in
    let letters = put_then _ _ _ to_opacity (letters_field l.letters) opacity c.in_ok-own_letters.ensures in
    let others = put_then _ _ _ to_letters (align_field l.align) letters c.in_ok-own_align.ensures in
    put_then _ _ _ (stroke ∷ []) (fill ∷ width ∷ all) c.in_ok-colour.ensures
    (put_then _ _ _ (fill ∷ []) (width ∷ all) c.in_ok-fill.ensures
    (put_then _ _ _ (width ∷ []) all c.in_ok-byte.ensures others))
