use Rattle.std.proofs.Common.{◌≡◌, ◌≤◌, true, List, [], length, ap, subst, sym, ◌∙◌}
use Rattle.gd_base.specs.declared.ties.Tie.{Tie}
use Rattle.gd_model.specs.declared.form.Form.TheVariants.{Takes}
use Rattle.gd_model.specs.Forms.{form}
use Rattle.gd_model.specs.Objects.{parts_of}
use Rattle.gd_model.specs.Relations.{covers_by}
use Rattle.gd_model.specs.Splices.{splice_by}
use Rattle.gd_canvas.specs.declared.kept.Kept.TheVariants.{Delete, Set, Disband}
use Rattle.gd_canvas.specs.Kept.{before_of, of_taken, op_of}
use Rattle.gd_canvas.specs.Swaps.{of_swap, sets}
use Rattle.gd_canvas.specs.Olds.{TiedValue}
use Rattle.gd_canvas.proofs.SpliceLemmas.{spliced, parts_cover, no_olds}
use Rattle.gd_canvas.proofs.TouchLemmas.{said_covers, form_covers, no_ties}
use Rattle.gd_canvas.proofs.splices.splice.Goals as goal

pub splice_set-requires-clause-parts : goal.splice_set-requires-clause-parts
splice_set-requires-clause-parts c =
    let f = c.in-Set in
    parts_cover f.id (parts_of (of_swap f.swap)) (form c.args.s (op_of c.args.e.now))
    (said_covers c.args.s c.args.t c.args.e.now c.args.f.now f.is_found f.id f.swap f.is ∙ c.requires.covers)

pub returns-in-Set-clause-before : goal.returns-in-Set-clause-before
returns-in-Set-clause-before c =
    let f = c.in-Set in
    c.splice_set.ensures.before f.id (sets c.args.t f.swap)
    (said_covers c.args.s c.args.t c.args.e.now c.args.f.now f.is_found f.id f.swap f.is ∙ c.requires.covers)
    ∙ spliced c.args.s c.args.t c.args.e.now c.args.f.now (Set f.is_found f.id f.swap) f.is

pub returns-in-Delete-clause-before : goal.returns-in-Delete-clause-before
returns-in-Delete-clause-before c =
    let f = c.in-Delete in
    c.splice_deleted.ensures.before f.id
    (form_covers c.args.s c.args.t (op_of c.args.e.now) (op_of c.args.f.now) (Takes f.id [])
    (ap (λ k. form c.args.t (op_of k)) f.is) ∙ c.requires.covers)
    ∙ spliced c.args.s c.args.t c.args.e.now c.args.f.now (Delete f.id f.before) f.is

pub returns-in-Disband-clause-before : goal.returns-in-Disband-clause-before
returns-in-Disband-clause-before c =
    let f = c.in-Disband in
    let g = form c.args.s (op_of c.args.e.now) in
    let covers = form_covers c.args.s c.args.t (op_of c.args.e.now) (op_of c.args.f.now) (Takes f.id f.tied.value.ties)
    (ap (λ k. form c.args.t (op_of k)) f.is) ∙ c.requires.covers in
    let ties = no_ties f.id f.tied.value.ties g covers in
    let few = subst (λ (v : TiedValue). length v.olds ≤ length v.ties) c.deref_mut.ensures.value c.clear.ensures.few in
    let olds = no_olds f.tied.value.ties f.tied.value.olds few ties in
    let plain = subst (λ (ts : List Tie). covers_by (Takes f.id ts) g ≡ true) ties covers in
    let before = sym ties in
    let links = sym olds in
    (λ i. (
      before_of c.splice_deleted-in-Disband.new.e,
      of_taken f.id (c.clear.ensures.olds i)
          c.splice_deleted-in-Disband.new.later,
    ))
    ∙ c.splice_deleted-in-Disband.ensures.before f.id plain
    ∙ (λ i. splice_by g (Takes f.id (before i)) (of_taken f.id (links i) f.before))
    ∙ spliced c.args.s c.args.t c.args.e.now c.args.f.now (Disband f.id f.before f.tied) f.is
