use Rattle.std.proofs.Common.{Some, ap, sym, ◌∙◌, arith}
use Rattle.std.specs.Prelude.{option_map}
use Rattle.gd_base.specs.Stamps.{Stamp}
use Rattle.gd_model.specs.declared.content.TheConstants.{LINK}
use Rattle.gd_model.specs.Forms.{form}
use Rattle.gd_model.specs.Relations.{Touch}
use Rattle.gd_canvas.specs.Kept.{op_of}
use Rattle.gd_canvas.specs.Touches.{own_parts}
use Rattle.gd_canvas.proofs.TouchLemmas.{first_at, later_at, own_past}
use Rattle.gd_canvas.proofs.touches.touch_at.Goals as goal

abbrev link : Stamp → Touch
link id = (id, LINK)

pub returns-in-Some : goal.returns-in-Some
returns-in-Some c =
    ap (λ (i : Stamp). Some (i, c.in-Some.part)) c.object_of.ensures
    ∙ first_at c.args.stamp (op_of c.args.kept.now) c.args.place c.in-Some.part (c.in-Some.ensures c.args.stamp)

pub overflow_sub-place : goal.overflow_sub-place
overflow_sub-place c =
    omega (
      arith,
      own_past (own_parts (form c.args.stamp (op_of c.args.kept.now))) c.args.place (c.in_default.ensures c.args.stamp),
      c.own_count.ensures.count c.args.stamp,
    )

pub returns-in-Some-tied_at : goal.returns-in-Some-tied_at
returns-in-Some-tied_at c =
    ap (option_map link) c.in-Some-tied_at.ensures
    ∙ sym (later_at c.args.stamp (op_of c.args.kept.now) c.args.place c.own_count.result
    (c.own_count.ensures.count c.args.stamp) (c.in_default.ensures c.args.stamp))

pub returns-in-None : goal.returns-in-None
returns-in-None c =
    ap (option_map link) c.in-None.ensures
    ∙ sym (later_at c.args.stamp (op_of c.args.kept.now) c.args.place c.own_count.result
    (c.own_count.ensures.count c.args.stamp) (c.in_default.ensures c.args.stamp))
