-- The checks of the held events while events come.
use Rattle.std.proofs.Common.{◌≡◌, ℕ, List, [], ◌∷◌, ◌++◌, refl, sym, subst}
use Rattle.gd_events.specs.Events.{Event}
use Rattle.gd_events.specs.Sound.{IsSound}
use Rattle.gd_grammar.proofs.ChainLemmas.{taken-are}
use Rattle.gd_grammar.specs.Chains.{AreChains, check_at, of_site, with_taken}
use Rattle.gd_grammar.specs.Drawings.{drawings}
use Rattle.gd_grammar.specs.Kinds.{spelling}
use Rattle.gd_reference.specs.SlowSite.{SlowSite, held_check, made_by}

-- the chains once an event was taken in
abbrev pub linked_with : List ℕ → Event → List ℕ
linked_with chains e = with_taken chains e.stamp.site (spelling drawings e)

pub chains_taken : (chains : List ℕ) (seen : List Event) (e : Event) → AreChains drawings chains seen → IsSound e
    → (links : List ℕ) → links ≡ linked_with chains e → AreChains drawings links (seen ++ e ∷ [])
chains_taken chains seen e are sound links is =
    subst (λ (l : List ℕ). AreChains drawings l (seen ++ e ∷ [])) (sym is)
    (taken-are drawings chains seen e (spelling drawings e) are (sound.stamp.site_above, sound.stamp.site_below) refl)

-- a site's check is the reference site's
pub held_check_is : (slow : SlowSite) (t : ℕ) → check_at drawings t slow.held ≡ held_check slow t
unfolding of_site made_by
held_check_is slow t = refl
