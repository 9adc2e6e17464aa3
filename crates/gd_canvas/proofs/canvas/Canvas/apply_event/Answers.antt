use Rattle.std.proofs.Common.{List, ℕ, [], ap, ◌∙◌}
use Rattle.std.specs.FinMap as map_of
use Rattle.gd_base.specs.Whole.{labelled}
use Rattle.gd_slots.specs.Slots.{board_of}
use Rattle.gd_model.specs.declared.form.Form.TheVariants.{Puts}
use Rattle.gd_model.specs.Board.{board_with}
use Rattle.gd_model.specs.Objects.{new_connector, new_shape}
use Rattle.gd_model.specs.Undoing.{before_by}
use Rattle.gd_canvas.specs.declared.kept.Kept.TheVariants.{Create, Connect, Set, Restore}
use Rattle.gd_canvas.specs.Olds.{TiedValue}
use Rattle.gd_canvas.proofs.FormLemmas.{applied_kept, before_kept, brought}
use Rattle.gd_canvas.proofs.canvas.Canvas.apply_event.Goals as goal

pub returns-in-Create-clause-board : goal.returns-in-Create-clause-board
returns-in-Create-clause-board c =
    let k = c.in-Create in
    let s = c.args.stamp in
    let b = board_of c.args.self.now in
    let found = Create k.is_made k.id k.new k.label in
    let label = brought c.args.spare c.args.kept.now found k.is c.requires.spare in
    c.create.ensures.board
    ∙ ap (λ o. board_with (Puts s o []) b)
    (c.shape.ensures ∙ ap (λ (l : List ℕ). new_shape s k.new.kind k.new.x k.new.y k.new.w k.new.h l) label)
    ∙ applied_kept s c.args.kept.now found b k.is

pub returns-in-Connect-clause-board : goal.returns-in-Connect-clause-board
returns-in-Connect-clause-board c =
    let k = c.in-Connect in
    let s = c.args.stamp in
    let b = board_of c.args.self.now in
    let found = Connect k.is_made k.id k.ends k.label in
    let label = brought c.args.spare c.args.kept.now found k.is c.requires.spare in
    c.create-in-Connect.ensures.board
    ∙ ap (λ o. board_with (Puts s o []) b) (c.connector.ensures ∙ ap (λ (l : List ℕ). new_connector s k.ends l) label)
    ∙ applied_kept s c.args.kept.now found b k.is

pub apply_set-requires : goal.apply_set-requires
apply_set-requires c =
    let k = c.in-Set in
    brought c.args.spare c.args.kept.now (Set k.is_found k.id k.swap) k.is c.requires.spare

pub returns-in-Restore-clause-board : goal.returns-in-Restore-clause-board
returns-in-Restore-clause-board c =
    let k = c.in-Restore in
    let s = c.args.stamp in
    let b = board_of c.args.self.now in
    let found = Restore k.is_made k.id k.object k.tied in
    let label = brought c.args.spare c.args.kept.now found k.is c.requires.spare in
    let object = c.with.ensures ∙ (λ i. labelled (c.get.ensures i) (label i)) in
    let ties = ap (λ (t : TiedValue). t.ties) c.deref_mut-in-Restore.ensures.value in
    c.restore.ensures.board
    ∙ (λ i. board_with (Puts k.id (object i) (ties i)) b)
    ∙ applied_kept s c.args.kept.now found b k.is

pub returns-in-Restore-clause-before : goal.returns-in-Restore-clause-before
returns-in-Restore-clause-before c =
    let k = c.in-Restore in
    let s = c.args.stamp in
    let b = board_of c.args.self.now in
    let found = Restore k.is_made k.id k.object k.tied in
    let label = brought c.args.spare c.args.kept.now found k.is c.requires.spare in
    let object = c.with.ensures ∙ (λ i. labelled (c.get.ensures i) (label i)) in
    let ties = ap (λ (t : TiedValue). t.ties) c.deref_mut-in-Restore.ensures.value in
    c.restore.ensures.before
    ∙ (λ i. before_by (Puts k.id (object i) (ties i)) (map_of.get b))
    ∙ before_kept s c.args.kept.now found b k.is
