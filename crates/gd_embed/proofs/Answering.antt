-- What a call of a live member answers.
use Rattle.std.proofs.Common.{◌≡◌, ◌∙◌, ℤ, true, false, Option, Some, None, ap, refl, sym, subst}
use Rattle.std.specs.Prelude.{Result}
use Rattle.gd_embed.specs.Calls.{Answers, Call, Calls}
use Rattle.gd_embed.specs.Codes.{coded}
use Rattle.gd_embed.specs.declared.answers.Fault.{Fault}
use Rattle.gd_embed.specs.declared.held.Held.{Held}
use Rattle.gd_member.specs.Members.{IsLive}

-- what an optional member is, or else this one
abbrev member_or : Held → Option Held → Held
member_or other None = other
member_or other (Some held) = held

same_member : {a b : Held} → Some a ≡ Some b → a ≡ b
same_member {a} e = ap (member_or a) e

nothing_there : {Q : Type 0} {a : Held} → Some a ≡ None → Q
nothing_there e = absurd cc

live_one : {Q : Type 0} (a : Held) → IsLive a.member → a.member.spent ≡ true → Q
live_one a live spent = let differ : true ≡ false = sym spent ∙ live in absurd cc

lent : (quiet : Type 0) (P : Call) (held later : Held) (r : Result ℤ Fault) (answer : ℤ) → IsLive held.member
    → answer ≡ coded r → Calls P held r later → Answers quiet P (Some held) answer (Some later)
lent quiet P held later r answer live said calls = record {
  empty = λ e. nothing_there e;
  spent = λ h e spent. live_one held live (subst (λ (x : Held). x.member.spent ≡ true) (sym (same_member e)) spent);
  live = λ h e is. (r, said, later, refl, subst (λ (x : Held). Calls P x r later) (same_member e) calls);
}

-- where the call changes what was lent
pub answers_changed : (quiet : Type 0) (P : Call) {old new : Option Held} {held there : Held} (later : Held)
    (r : Result ℤ Fault) {answer : ℤ} → old ≡ Some held → IsLive held.member → there ≡ held → Calls P there r later
    → new ≡ Some later → answer ≡ coded r → Answers quiet P old answer new
answers_changed quiet P {old} {new} {held} later r {answer} had live same calls put said =
    subst (λ (v : Option Held). Answers quiet P v answer new) (sym had)
    (subst (λ (v : Option Held). Answers quiet P (Some held) answer v) (sym put)
    (lent quiet P held later r answer live said (subst (λ (x : Held). Calls P x r later) same calls)))

-- where it reads alone
pub answers_read : (quiet : Type 0) (P : Call) {old new : Option Held} {held there : Held}
    (r : Result ℤ Fault) {answer : ℤ} → old ≡ Some held → IsLive held.member → there ≡ held → Calls P there r there
    → new ≡ Some held → answer ≡ coded r → Answers quiet P old answer new
answers_read quiet P {held = held} r had live same calls put said =
    answers_changed quiet P held r had live refl (subst (λ (x : Held). Calls P x r x) same calls) put said
