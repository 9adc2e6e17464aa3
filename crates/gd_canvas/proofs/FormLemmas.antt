-- What a canvas does for a form, as its definitions say it.
use Rattle.std.proofs.Common.{◌≡◌, ℕ, not, Bool, true, false, cond, List, [], Option, None, Some, refl, sym, ap, ◌∙◌}
use Rattle.std.specs.Prelude.{is_some, option_and_then, option_copied, option_map, unwrap_or}
use Rattle.std.specs.Borrow.{Bor}
use Rattle.std.specs.FinMap as map_of
use Rattle.gd_base.specs.Stamps.{Stamp}
use Rattle.gd_model.specs.declared.form.Form.TheVariants.{Sets, Puts, Takes}
use Rattle.gd_base.specs.declared.object.Link.{Link}
use Rattle.gd_base.specs.Whole.{Object}
use Rattle.gd_base.specs.declared.ties.Tie.{Tie}
use Rattle.gd_model.specs.Board.{Board, apply, tie_all, board_with}
use Rattle.gd_model.specs.Contents.{Content}
use Rattle.gd_base.specs.declared.object.Kind.{Kind}
use Rattle.gd_base.specs.declared.object.Kind.TheVariants.{Shape, Group, Connector}
use Rattle.gd_model.specs.Drawing.{first_tie, tied_from}
use Rattle.gd_model.specs.Objects.{own_ties, tied_by}
use Rattle.gd_model.specs.Forms.{form}
use Rattle.gd_model.specs.Undoing.{Before, Lookup, before, before_by, old_in, old_ties, undone, undone_by}
use Rattle.gd_drawing.proofs.Lookups.{get-tie_all, put_at-kept, at_itself}
use Rattle.gd_canvas.specs.declared.kept.Kept.{Kept}
use Rattle.gd_canvas.specs.Kept.{before_of, label_in, of_found, of_made, of_taken, op_of}
use Rattle.gd_canvas.specs.Settings.{replaced_by}

-- what a borrowed object tells
pub copied_some : (x : Option (Bor Object)) → is_some (option_copied x) ≡ is_some x
copied_some None = refl
copied_some (Some r) = refl

-- the object that was found is the one that is there
pub found_object : (r : Option (Bor Object)) (lent : Bor Object) (x : Option Object) (o : Object) → r ≡ Some lent
    → option_copied r ≡ x → x ≡ Some o → lent.now ≡ o
found_object r lent x o is copied there = ap (λ y. unwrap_or y o) (sym (ap option_copied is) ∙ copied ∙ there)

-- what a content finds
pub old_found : (c : Content) (x : Option Object) → option_and_then (replaced_by c) x ≡ old_in c x
old_found c None = refl
old_found c (Some o) = refl

pub ruleset finds = (old_found)

-- ---- what is put

tied_there : (r : Option (Option Link)) (x : Option Object) → is_some (option_map (tied_by r) x) ≡ is_some x
tied_there r None = refl
tied_there r (Some o) = refl

-- an object is there after others are tied where it was
pub tie_all-there : (ties : List Tie) (b : Board) (id : Stamp)
    → is_some (map_of.get (tie_all ties b) id) ≡ is_some (map_of.get b id)
tie_all-there ties b id = ap is_some (get-tie_all ties b id) ∙ tied_there (first_tie ties id) (map_of.get b id)

-- no object gives ties where there are none
own_none : (k : Kind) → own_ties k [] ≡ []
own_none (Shape kind) = refl
own_none Group = refl
own_none Connector = refl

from_none : (x : Option Object) → tied_from x [] ≡ []
from_none None = refl
from_none (Some o) = own_none o.kind

-- an object that is put without ties
pub put_alone : (id : Stamp) (o : Object) (b : Board)
    → cond (map_of.contains_key b id) b (map_of.insert b id o) ≡ board_with (Puts id o []) b
put_alone id o b = ap (λ ts. cond (map_of.contains_key b id) b (map_of.insert (tie_all ts b) id o))
    (sym (own_none o.kind))

pub ruleset puts = (put_alone)

-- an object that is put where none is, and now is the board with the others tied
pub puts-board : (id : Stamp) (o : Object) (ties : List Tie) (b now : Board) → is_some (map_of.get b id) ≡ false
    → now ≡ tie_all (own_ties o.kind ties) b
    → board_with (Puts id o []) now ≡ board_with (Puts id o ties) b
puts-board id o ties b now absent e =
    let tied = tie_all (own_ties o.kind ties) b in
    sym (put_alone id o now)
    ∙ ap (λ c. cond (map_of.contains_key c id) c (map_of.insert c id o)) e
    ∙ ap (λ t. cond t tied (map_of.insert tied id o)) (tie_all-there (own_ties o.kind ties) b id ∙ absent)
    ∙ ap (λ t. cond t b (map_of.insert tied id o)) (sym absent)

-- what puts an object is taken back by whether it did, which it does where none is
pub made_before : (id : Stamp) (x : Option Object) (olds : List Tie) (is_made : Bool) → is_made ≡ not (is_some x)
    → ◌≡◌ {A = Before} (of_made is_made id olds) (cond (is_some x) None (Some (Takes id olds)))
made_before id None olds is_made e = ap (λ b. of_made b id olds) e
made_before id (Some o) olds is_made e = ap (λ b. of_made b id olds) e

-- ---- what is taken

-- what an object that is taken without ties leaves
gone : (b : Board) (id : Stamp) → tie_all (tied_from (map_of.get b id) []) (map_of.remove b id) ≡ map_of.remove b id
gone b id = ap (λ ts. tie_all ts (map_of.remove b id)) (from_none (map_of.get b id))

taken_by : (b : Board) (id : Stamp) (x : Option Object) → map_of.get b id ≡ x
    → map_of.remove b id ≡ cond (is_some x) (tie_all (tied_from (map_of.get b id) []) (map_of.remove b id)) b
taken_by b id None e = put_at-kept b id None e
taken_by b id (Some o) e = sym (gone b id)

-- an object is taken out of its slot, where it is there
pub taken : (b : Board) (id : Stamp) → map_of.remove b id ≡ board_with (Takes id []) b
taken b id = taken_by b id (map_of.get b id) refl

pub ruleset takes = (taken)

-- and the others are tied
pub takes-tied : (id : Stamp) (ties : List Tie) (b now : Board) → is_some (map_of.get b id) ≡ true
    → now ≡ board_with (Takes id []) b
    → tie_all (tied_from (map_of.get b id) ties) now ≡ board_with (Takes id ties) b
takes-tied id ties b now there e =
    let own = tied_from (map_of.get b id) ties in
    ap (tie_all own) (e ∙ sym (taken b id))
    ∙ ap (λ t. cond t (tie_all own (map_of.remove b id)) b) (sym there)

-- of the object that was found
pub tied_found : (o : Object) (x : Option Object) (ties given : List Tie) → Some o ≡ x → given ≡ own_ties o.kind ties
    → given ≡ tied_from x ties
tied_found o x ties given is own = own ∙ ap (λ y. tied_from y ties) is

-- where none is, nothing changes
pub takes-kept : (id : Stamp) (ties : List Tie) (b now : Board) → is_some (map_of.get b id) ≡ false
    → now ≡ board_with (Takes id []) b
    → now ≡ board_with (Takes id ties) b
takes-kept id ties b now absent e =
    e ∙ ap (λ t. cond t (tie_all (tied_from (map_of.get b id) []) (map_of.remove b id)) b) absent
    ∙ ap (λ t. cond t (tie_all (tied_from (map_of.get b id) ties) (map_of.remove b id)) b) (sym absent)

-- what takes an object is taken back by the links that were kept, where it is there
pub taken_before : (id : Stamp) (x : Option Object) (ties olds : List Tie) (objects : Lookup)
    → ((o : Object) → x ≡ Some o → olds ≡ old_ties (own_ties o.kind ties) objects)
    → ◌≡◌ {A = Before} (of_taken id olds x) (option_map (λ o. Puts id o (old_ties (own_ties o.kind ties) objects)) x)
taken_before id None ties olds objects kept = refl
taken_before id (Some o) ties olds objects kept = ap (λ us. Some (Puts id o us)) (kept o refl)

-- ---- what is undone

-- a form of an object is undone by another one of it
pub put_back : (id : Stamp) (o : Object) (olds ties : List Tie) (b : Board)
    → board_with (Puts id o olds) b ≡ undone_by (Takes id ties) (of_taken id olds (Some o)) b
put_back id o olds ties b = sym (at_itself id (board_with (Puts id o olds) b) b)

pub set_back : (id : Stamp) (old new : Content) (b : Board)
    → board_with (Sets id old) b ≡ undone_by (Sets id new) (of_found id (Some old)) b
set_back id old new b = sym (at_itself id (board_with (Sets id old) b) b)

pub ruleset backs = (put_back, set_back)

-- a kept event is undone as what it was found to be
pub undone_kept : (stamp : Stamp) (kept found : Kept) (b : Board) → kept ≡ found
    → undone_by (form stamp (op_of found)) (before_of found) b ≡ undone stamp (op_of kept) (before_of kept) b
unfolding undone
undone_kept stamp kept found b e = ap (λ k. undone_by (form stamp (op_of k)) (before_of k) b) (sym e)

-- it is applied as what it was found to be, and so is its before-value
pub applied_kept : (stamp : Stamp) (kept found : Kept) (b : Board) → kept ≡ found
    → board_with (form stamp (op_of found)) b ≡ apply stamp (op_of kept) b
unfolding apply
applied_kept stamp kept found b e = ap (λ k. board_with (form stamp (op_of k)) b) (sym e)

pub before_kept : (stamp : Stamp) (kept found : Kept) (b : Board) → kept ≡ found
    → ◌≡◌ {A = Before} (before_by (form stamp (op_of found)) (map_of.get b)) (before stamp (op_of kept) b)
unfolding before
before_kept stamp kept found b e = ap (λ k. before_by (form stamp (op_of k)) (map_of.get b)) (sym e)

-- what an event brings along is the label that its operation says
pub brought : (spare : List ℕ) (e found : Kept) → e ≡ found → spare ≡ label_in (op_of e)
    → spare ≡ label_in (op_of found)
brought spare e found is h = h ∙ ap (λ k. label_in (op_of k)) is
