-- What is found in a journal's bytes.
use Rattle.std.proofs.Common.{◌≡◌, ℕ, ◌+◌, List, [], ◌∷◌, ◌++◌, true, refl, sym, ap, subst, ◌∙◌, append-nil, arith}
use Rattle.std.specs.Prelude.{Ok, Err, sum}
use Rattle.gd_events.specs.Events.{Event}
use Rattle.gd_grammar.specs.Drawings.{drawings}
use Rattle.gd_grammar.specs.HeaderBytes.{Header, header_bytes}
use Rattle.gd_grammar.specs.LogBytes.{gated_bytes, logged}
use Rattle.gd_member.specs.Members.{MemberValue}
use Rattle.gd_member.specs.Opening.{PaysFor}
use Rattle.gd_model.specs.Arrivals.{costs}
use Rattle.gd_reference.specs.Rejoin.{Found, Events, Faulty, Other, found}
use Rattle.gd_rejoin.proofs.FoundLemmas.{found-events}
use Rattle.gd_rejoin.specs.Faults.{IsFound, is_short}
use Rattle.gd_rejoin.specs.LogFor.{IsLogFor}
use Rattle.gd_rejoin.specs.Resuming.{PaysFirst}
use Rattle.gd_rejoin.specs.declared.fault.ResumeFault.{ResumeFault}
use Rattle.gd_rejoin.specs.declared.fault.ResumeFault.TheVariants.{NoMemory}

module _ (h k : Header) (same : h ≡ k) (bytes : List ℕ) where
  -- a fault
  pub fault_here : (fault : ResumeFault)
      → ((more : List ℕ) → (is_short fault ≡ true → more ≡ []) → IsFound fault (found h (bytes ++ more)))
      → IsFound fault (found k bytes)
  fault_here fault is =
      subst (λ l. IsFound fault (found k l)) (append-nil bytes)
      (subst (λ z. IsFound fault (found z (bytes ++ []))) same (is [] (λ short. refl)))

  -- events
  pub events_here : (events : List Event) (place : ℕ) (chains : List ℕ)
      → ((more : List ℕ) → IsLogFor h events place chains (Unit {0}) (bytes ++ more)) → found k bytes ≡ Events events
  events_here events place chains log =
      ap (found k) (sym (append-nil bytes))
      ∙ subst (λ z. found z (bytes ++ []) ≡ Events events) same
      (found-events h (bytes ++ []) events ((log []).closes tt))

-- ---- the steps

-- none were taken
pub unpaid : (there : Found) (fault : ResumeFault) (n : ℕ) → PaysFor there (Err fault) n n
unpaid (Events events) fault n = ([], costs events, refl, omega arith)
unpaid (Faulty at why) fault n = refl
unpaid (Other h) fault n = refl

-- the first of them
pub paid_first : (there : Found) (events : List Event) (fault : ResumeFault) (a b : ℕ) → there ≡ Events events
    → PaysFirst (Events events) a b → PaysFor there (Err fault) a b
paid_first there events fault a b is paid = subst (λ t. PaysFor t (Err fault) a b) (sym is) paid

-- all of them
pub paid_all : (there : Found) (events : List Event) (m : MemberValue) (a b : ℕ) → there ≡ Events events
    → b ≡ a + sum (costs events) → PaysFor there (Ok m) a b
paid_all there events m a b is paid = subst (λ t. PaysFor t (Ok m) a b) (sym is) paid

-- memory ran out
pub no_memory : (there : Found) (fault : ResumeFault) → fault ≡ NoMemory → IsFound fault there
no_memory there fault is = subst (λ f. IsFound f there) (sym is) tt

-- the bytes of no events
pub logged_none : (h : Header) → logged drawings h [] ≡ header_bytes drawings h ++ 0 ∷ []
unfolding gated_bytes
logged_none h = ap (λ l. l ++ 0 ∷ []) (append-nil (header_bytes drawings h))
