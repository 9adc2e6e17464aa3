-- The pieces of a log, printed one after another.
use Rattle.std.proofs.Common.{◌≡◌, ℕ, List, [], ◌∷◌, ◌++◌, map, sym, ap, ◌∙◌}
use Rattle.gd_base.specs.declared.version.Version.TheVariants.{Three}
use Rattle.gd_events.specs.Events.{Event}
use Rattle.gd_grammar.specs.Chains.{AreChains}
use Rattle.gd_grammar.specs.HeaderBytes.{Header, header_bytes}
use Rattle.gd_grammar.specs.LogBytes.{gate, log_pieces, record_bytes, record_pieces}
use Rattle.gd_grammar.specs.Drawings.{drawings}
use Rattle.gd_effects.specs.Effects.{Effect, Print}

abbrev pub prints : List (List ℕ) → List Effect
prints pieces = map Print pieces

-- the pieces behind those of the events that were seen
abbrev pub pieces : List Event → List Event → List Effect
pieces seen left = prints (record_pieces drawings Three seen left)

pub pieces-head : (header : Header) (events : List Event) (bytes written : List ℕ) → header.version ≡ Three
    → bytes ≡ written → written ≡ header_bytes drawings header
    → prints (log_pieces drawings header events) ≡ (Print bytes ∷ []) ++ pieces [] events
pieces-head header events bytes written newest same is =
    ap (λ v. Print (header_bytes drawings header) ∷ prints (record_pieces drawings v [] events)) newest
    ∙ ap (λ (b : List ℕ). Print b ∷ pieces [] events) (sym (same ∙ is))

pub pieces-record : (seen left rest : List Event) (e : Event) → left ≡ e ∷ rest
    → pieces seen left
    ≡ (Print (gate ∷ record_bytes drawings Three seen e) ∷ []) ++ pieces (seen ++ e ∷ []) rest
unfolding record_pieces
pieces-record seen left rest e first = ap (λ (es : List Event). pieces seen es) first

pub pieces-end : (seen left : List Event) → left ≡ [] → pieces seen left ≡ Print (0 ∷ []) ∷ []
unfolding record_pieces
pieces-end seen left none = ap (λ (es : List Event). pieces seen es) none
