-- The names that `refl` has to see through where it computes a worked row.
use Rattle.std.specs.Prelude.{⊤}
use Rattle.std.specs.Fmt.{digits}
use Rattle.gd_base.specs.Stamps.{stamp_cmp}
use Rattle.gd_base.specs.Insertions.{inserted_by}
use Rattle.gd_base.specs.Ranks.{level_cmp, rank_cmp}
use Rattle.gd_lines.specs.Text.{colour_text, hex_digit, high_digits, id_text, nibble}
use Rattle.gd_json.specs.PictureJson.{item_json}
use Rattle.gd_json.specs.EventsJson.{event_json, link_json, member_json, rank_json, tie_json}
use Rattle.gd_json.specs.Values.{put_field}

unfoldable pub computing : ⊤
unfolding stamp_cmp inserted_by rank_cmp level_cmp digits colour_text hex_digit high_digits id_text nibble item_json
    put_field event_json link_json member_json rank_json tie_json
computing = tt
