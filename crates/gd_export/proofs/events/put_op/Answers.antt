use Rattle.std.proofs.Common.{◌∙◌, List, map, sym, ap, codes}
use Rattle.std.proofs.lemmas.Result.{on_ok_weaker}
use Rattle.gd_base.specs.declared.ties.Tie.{Tie}
use Rattle.gd_events.specs.Ops.{Op}
use Rattle.gd_json.specs.EventsJson.{id_field, object_fields, op_fields, tie_json}
use Rattle.gd_json.specs.Values.{array, put_all, put_field}
use Rattle.gd_export.proofs.events.put_op.Goals as goal

-- the fields of the object come behind the others
pub returns-in_ok-put-in-Restore : goal.returns-in_ok-put-in-Restore
returns-in_ok-put-in-Restore c =
    let k = c.in-Restore in
    let fields = c.args.fields.now in
    let name = c.in_ok-word-in-Restore.ensures in
    let named = c.in_ok-id-in-Restore.ensures ∙ ap (λ fs. put_field fs (id_field k.id)) name in
    let same = c.as_slice-in-Restore.ensures.items in
    let ties = c.in_ok-ties-in-Restore.ensures ∙ ap (λ (ts : List Tie). array (map tie_json ts)) same in
    let front = c.in_ok-put-in-Restore.ensures ∙ (λ i. put_field (named i) (codes "ties", ties i)) in
    let whole = ap (λ (op : Op). put_all fields (op_fields op)) (sym k.is) in
    on_ok_weaker c.put_object.result (λ e. e ∙ ap (λ fs. put_all fs (object_fields k.object)) front ∙ whole)
    (rw c.get.ensures at c.put_object.ensures)
