-- Two numbers that are kept where both are in their range.
use Rattle.std.proofs.Common.{◌≡◌, ℤ, Bool, true, false, cond, ◌&&◌, Some, None, Ok, Err, refl, sym, ap}
use Rattle.gd_base.specs.Ranges.{place_limit, is_within}
use Rattle.gd_base.specs.Stamps.{Stamp}
use Rattle.gd_base.specs.declared.content.Content.TheVariants.{ToPlace}
use Rattle.gd_base.specs.declared.member.Member.{Member}
use Rattle.gd_base.specs.declared.op.Op.TheVariants.{Set}
use Rattle.gd_base.specs.declared.refusal.EditRefusal.TheVariants.{TooFar}
use Rattle.gd_events.specs.Ops.{Op}
use Rattle.gd_reference.specs.Judging.{moved_to}
use Rattle.gd_judging.specs.Targets.{in_range}

-- what moves an object to a place
abbrev move_to : Stamp → ℤ × ℤ → Op
move_to id p = Set id (ToPlace p.0 p.1)

moved_by : (id : Stamp) (t : Bool) (p q : ℤ × ℤ) → cond t (Some p) None ≡ Some q
    → Ok (move_to id q) ≡ cond t (Ok (move_to id p)) (Err TooFar)
moved_by id true p q h = let e : p ≡ q = cc in ap (λ (r : ℤ × ℤ). Ok (move_to id r)) (sym e)
moved_by id false p q h = cc

pub moved_some : (id : Stamp) (a b x y : ℤ) → in_range a b ≡ Some (x, y) → Ok (Set id (ToPlace x y)) ≡ moved_to id a b
moved_some id a b x y h = moved_by id (is_within place_limit a && is_within place_limit b) (a, b) (x, y) h

unmoved_by : (id : Stamp) (t : Bool) (p : ℤ × ℤ) → cond t (Some p) None ≡ None
    → Err TooFar ≡ cond t (Ok (move_to id p)) (Err TooFar)
unmoved_by id true p h = cc
unmoved_by id false p h = refl

pub moved_none : (id : Stamp) (a b : ℤ) → in_range a b ≡ None → Err TooFar ≡ moved_to id a b
moved_none id a b h = unmoved_by id (is_within place_limit a && is_within place_limit b) (a, b) h

abbrev shifted : Stamp → ℤ × ℤ → Member
shifted id shift = record { id = id; dx = shift.0; dy = shift.1 }

shifted_by : (id : Stamp) (t : Bool) (p q : ℤ × ℤ) → cond t (Some p) None ≡ Some q
    → Some (shifted id q) ≡ cond t (Some (shifted id p)) None
shifted_by id true p q h = let e : p ≡ q = cc in ap (λ (r : ℤ × ℤ). Some (shifted id r)) (sym e)
shifted_by id false p q h = cc

pub shifted_some : (id : Stamp) (a b x y : ℤ) → in_range a b ≡ Some (x, y)
    → Some (shifted id (x, y))
    ≡ cond (is_within place_limit a && is_within place_limit b) (Some (shifted id (a, b))) None
shifted_some id a b x y h = shifted_by id (is_within place_limit a && is_within place_limit b) (a, b) (x, y) h
