use Rattle.std.proofs.Common.{map, take}
use Rattle.gd_json.specs.PictureJson.{item_json}
use Rattle.gd_export.specs.Begun.{IsBegun}
use Rattle.gd_export.proofs.picture.picture_json.Given as goal

abbrev pub invariant-loop-item : goal.invariant-loop-item
invariant-loop-item l = IsBegun l.array (map item_json (take l.item-index l.item-items))
