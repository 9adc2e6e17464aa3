-- What comes of an edit, an undo or a redo.
use Rattle.std.proofs.Common.{◌≡◌, ◌+◌, ℕ, true, false, List, length, refl, sym, ap, subst, ◌∙◌, arith}
use Rattle.std.specs.Prelude.{Result, Ok, Err}
use Rattle.gd_base.specs.declared.refusal.EditRefusal.{EditRefusal}
use Rattle.gd_events.specs.Events.{Event}
use Rattle.gd_member.proofs.Standing.{stands_as}
use Rattle.gd_member.specs.Members.{IsLive, MemberValue}
use Rattle.gd_member.specs.Standing.{Stands}
use Rattle.gd_member.specs.Turning.{OnRefused, is_memory}
use Rattle.gd_member.specs.Unwritten.{AreUnwritten}
use Rattle.gd_reference.specs.SiteEffects.{turned}
use Rattle.gd_reference.specs.SlowSite.{SlowSite}
use Rattle.gd_reference.specs.TakeBack.{BackRefusal}
use Rattle.gd_judging.specs.Faults.{EditIs}
use Rattle.gd_judging.specs.declared.faults.EditFault.TheVariants as fault
use Rattle.gd_takeback.specs.Answers.{OnBackRefusal, PaysFor, TurnIs}
use Rattle.gd_takeback.specs.Standing.{StandsWith}
use Rattle.gd_takeback.specs.declared.take_back.BackFault.{BackFault}
use Rattle.gd_takeback.specs.declared.take_back.BackFault.TheVariants as back

-- ---- an edit for which there is no memory

pub edit_unmade : (r : Result Event EditRefusal) (e : Event) → EditIs r (Ok e) → EditIs r (Err fault.Memory)
edit_unmade r e is = subst (λ x. EditIs x (Err fault.Memory)) (sym is) refl

-- ---- an undo, or a redo, for whose events there is none

module _ (r : Result (List Event) BackRefusal) (es : List Event) (is : r ≡ Ok es) where
  pub turn_unmade : TurnIs r (Err back.NoMemory)
  turn_unmade = subst (λ x. TurnIs x (Err back.NoMemory)) (sym is) refl

  pub turn_unpaid : {before after : ℕ} → after ≡ before + length es
      → PaysFor (length (turned r)) (Err back.NoMemory) before after
  turn_unpaid {before} {after} paid =
      let most : length (turned r) ≡ length es = ap (λ x. length (turned x)) is in
      (omega (arith, paid), omega (arith, paid, most))

-- refused, it is refused however its events are counted
pub refused_as : (P : Type 0) (why : BackFault) → OnBackRefusal (Err why) P → OnRefused (Err why) P
refused_as P back.NoMemory p = tt
refused_as P back.Nothing p = p
refused_as P back.ClockEnd p = p
refused_as P back.SessionFull p = p

-- ---- a refusal leaves the member as it was, unless it is for want of memory

stands_left : {slow : SlowSite} {written : List Event} {m m' : MemberValue} → Stands slow written m
    → StandsWith slow m'.site m'.backs → m'.unwritten ≡ m.unwritten → IsLive m' → Stands slow written m'
stands_left {slow} {written} st stands same live =
    stands_as st refl live stands (λ others are. subst (λ u. AreUnwritten written others u) (sym same) are)

pub stands_refused : {slow : SlowSite} {written : List Event} {m : MemberValue} (m' : MemberValue)
    → Stands slow written m
    → (why : BackFault) → OnBackRefusal (Err why) (StandsWith slow m'.site m'.backs)
    → OnBackRefusal (Err why) (m'.unwritten ≡ m.unwritten) → m'.spent ≡ is_memory why
    → OnBackRefusal (Err why) (Stands slow written m')
stands_refused m' st back.NoMemory stands same spent = tt
stands_refused m' st back.Nothing stands same spent = stands_left st stands same spent
stands_refused m' st back.ClockEnd stands same spent = stands_left st stands same spent
stands_refused m' st back.SessionFull stands same spent = stands_left st stands same spent

pub stands_live : {slow : SlowSite} {written : List Event} {m : MemberValue} (m' : MemberValue) → Stands slow written m
    → (why : BackFault) → OnBackRefusal (Err why) (StandsWith slow m'.site m'.backs)
    → OnBackRefusal (Err why) (m'.unwritten ≡ m.unwritten) → m'.spent ≡ is_memory why → IsLive m'
    → Stands slow written m'
stands_live m' st back.NoMemory stands same spent live = let e : true ≡ false = sym spent ∙ live in absurd cc
stands_live m' st back.Nothing stands same spent live = stands_left st stands same live
stands_live m' st back.ClockEnd stands same spent live = stands_left st stands same live
stands_live m' st back.SessionFull stands same spent live = stands_left st stands same live
