use Rattle.std.proofs.Common.{◌++◌, codes}
use Rattle.std.specs.Prelude.{decimal}
use Rattle.gd_json.specs.EventsJson.{part_field}
use Rattle.gd_json.specs.Parts.{align_or_null, colour_json, colour_or_null, dash_json, heads_json, number_or_null}
use Rattle.gd_export.proofs.Puts.{put_then}
use Rattle.gd_export.proofs.values.Fields.looks.Goals as goal

pub returns : goal.returns
returns c =
    let l = c.args.looks.now in
    let stroke = part_field (codes "stroke") colour_json l.stroke in
    let fill = part_field (codes "fill") colour_or_null l.fill in
    let width = part_field (codes "width") decimal l.width in
    let dash = part_field (codes "dash") dash_json l.dash in
    let heads = part_field (codes "heads") heads_json l.heads in
    let round = part_field (codes "round") number_or_null l.round in
    let opacity = part_field (codes "opacity") decimal l.opacity in
    let letters = part_field (codes "letters") number_or_null l.letters in
    let align = part_field (codes "align") align_or_null l.align in
    let to_fill = stroke ++ fill in
    let to_width = to_fill ++ width in
    let to_dash = to_width ++ dash in
    let to_heads = to_dash ++ heads in
    let to_round = to_heads ++ round in
    let to_opacity = to_round ++ opacity in
    let to_letters = to_opacity ++ letters in
    let two = put_then _ _ _ stroke fill c.in_ok-set_stroke.ensures c.in_ok-set_fill.ensures in
    let three = put_then _ _ _ to_fill width two c.in_ok-set_byte.ensures in
    let four = put_then _ _ _ to_width dash three c.in_ok-set_dash.ensures in
    let five = put_then _ _ _ to_dash heads four c.in_ok-set_heads.ensures in
    let six = put_then _ _ _ to_heads round five c.in_ok-set_round.ensures in
    let seven = put_then _ _ _ to_round opacity six c.in_ok-set_byte-2.ensures in
    let eight = put_then _ _ _ to_opacity letters seven c.in_ok-set_letters.ensures in
    put_then _ _ _ to_letters align eight c.in_ok-set_align.ensures
