use Rattle.std.proofs.Common.{[], length, refl, sym, ap, ◌∙◌}
use Rattle.gd_model.specs.declared.form.Form.TheVariants.{Takes}
use Rattle.gd_model.specs.Forms.{form}
use Rattle.gd_canvas.specs.Kept.{op_of}
use Rattle.gd_canvas.specs.Olds.{TiedValue}
use Rattle.gd_canvas.specs.Touches.{is_set_by}
use Rattle.gd_canvas.proofs.TouchLemmas.{form_covers, set_covers}
use Rattle.gd_canvas.proofs.relations.covers.Goals as goal

pub returns-in-Set : goal.returns-in-Set
returns-in-Set c =
    let f = c.in-Set in
    c.is_set_by.ensures c.args.s
    ∙ ap (λ ps. is_set_by f.id ps (form c.args.s (op_of c.args.e.now)))
    (c.as_slice.ensures.value ∙ c.parts-parts.ensures.parts c.args.t)
    ∙ set_covers c.args.s c.args.t c.args.e.now c.args.f.now f.is_found f.id f.swap f.is

pub returns-in-Delete : goal.returns-in-Delete
returns-in-Delete c =
    let f = c.in-Delete in
    c.is_taken_by.ensures [] refl
    ∙ form_covers c.args.s c.args.t (op_of c.args.e.now) (op_of c.args.f.now) (Takes f.id [])
    (ap (λ k. form c.args.t (op_of k)) f.is)

pub returns-in-Disband : goal.returns-in-Disband
returns-in-Disband c =
    let f = c.in-Disband in
    let ties = c.ties.ensures.ties ∙ ap (λ (t : TiedValue). t.ties) c.deref.ensures in
    c.is_taken_by-in-Disband.ensures f.tied.value.ties (ap length (sym ties))
    ∙ form_covers c.args.s c.args.t (op_of c.args.e.now) (op_of c.args.f.now) (Takes f.id f.tied.value.ties)
    (ap (λ k. form c.args.t (op_of k)) f.is)
