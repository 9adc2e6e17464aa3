-- Events that are offered one after the other, in a loop.
use Rattle.std.proofs.Common.{◌≡◌, ◌∙◌, ℕ, suc, ◌+◌, ◌<◌, ◌≤◌, List, ◌∷◌, length, drop, drop-cons, drop_of_length-le}
use Rattle.std.proofs.Common.{[], false, get_or, add-one, sym, ap, arith, refl}
use Rattle.std.proofs.lemmas.Bool.{ne_eqb}
use Rattle.gd_events.specs.Events.{Event}
use Rattle.gd_base.specs.declared.offer.Offer.{Offer}
use Rattle.gd_base.specs.declared.offer.Offer.TheVariants.{Next, Repeat, Gap, Backdated}
use Rattle.gd_grammar.specs.declared.frame.Head.{Head}
use Rattle.gd_site.specs.Foreseen.{differs, foreseen, foreseen_by, foreseen_offer}
use Rattle.gd_site.specs.declared.foreseen.Foreseen.{Foreseen}

module _ (first : Foreseen) (all : List Event) (so : Foreseen) where
  pub foreseen-more : (then : Foreseen) (i : ℕ) (e : Event) → i < length all → e ≡ get_or all i e
      → then ≡ foreseen_by (foreseen_offer so e) so e → foreseen so (drop i all) ≡ foreseen first all
      → foreseen then (drop (i + 1) all) ≡ foreseen first all
  unfolding foreseen
  foreseen-more then i e below read is so_far =
      let next : drop i all ≡ e ∷ drop (i + 1) all =
      drop-cons all i e below ∙ ap (λ (x : Event). x ∷ drop (suc i) all) (sym read)
      ∙ ap (λ (k : ℕ). e ∷ drop k all) (sym (add-one i)) in
      ap (λ (s : Foreseen). foreseen s (drop (i + 1) all)) is
      ∙ sym (ap (foreseen so) next) ∙ so_far

  pub foreseen-all : (i : ℕ) → length all ≤ i → foreseen so (drop i all) ≡ foreseen first all
      → so ≡ foreseen first all
  unfolding foreseen
  foreseen-all i over so_far = sym (ap (foreseen so) (drop_of_length-le all over)) ∙ so_far

-- an event brings at most one more
few-by : (o : Offer) (so : Foreseen) (e : Event) → (foreseen_by o so e).count ≤ so.count + 1
few-by Next so e = omega arith
few-by Repeat so e = omega arith
few-by Gap so e = omega arith
few-by (Backdated clock sure) so e = omega arith

foreseen-few : (es : List Event) (so : Foreseen) → (foreseen so es).count ≤ so.count + length es
unfolding foreseen
foreseen-few [] so = omega arith
foreseen-few (e ∷ es) so =
    let then = foreseen_by (foreseen_offer so e) so e in
    omega (arith, foreseen-few es then, few-by (foreseen_offer so e) so e)

-- where the head counts more than all of them, they show no parting
pub counts-more : (so : Foreseen) (es : List Event) (head : Head) → so.count + length es < head.count
    → false ≡ differs (foreseen so es) head
counts-more so es head more =
    rw (ne_eqb (foreseen so es).count head.count (omega (arith, foreseen-few es so, more))) refl
