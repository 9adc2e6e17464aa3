-- The bytes of events behind their gates, one after another.
use Rattle.std.proofs.Common.{◌≡◌, ◌∙◌, ℕ, ◌+◌, List, [], ◌∷◌, ◌++◌, length, ap, sym, refl, arith, append_assoc}
use Rattle.std.proofs.Common.{append-nil, length-append}
use Rattle.std.specs.List.{concat}
use Rattle.gd_base.specs.declared.version.Version.{Version}
use Rattle.gd_events.specs.Events.{EventValue}
use Rattle.gd_grammar.specs.Closing.{gate_place}
use Rattle.gd_grammar.specs.Kinds.{LogKind}
use Rattle.gd_grammar.specs.LogBytes.{gate, gated_bytes, record_bytes, record_pieces}

module _ {O : Type 0} (kind : LogKind O) (version : Version) where
  -- the bytes of an event behind these
  abbrev one : List (EventValue O) → EventValue O → List ℕ
  one seen e = record_bytes kind version seen e

  -- and those of more, with their gates
  abbrev all : List (EventValue O) → List (EventValue O) → List ℕ
  all seen events = gated_bytes kind version seen events

  pub gated-one : (seen : List (EventValue O)) (e : EventValue O) → all seen (e ∷ []) ≡ gate ∷ one seen e
  unfolding gated_bytes
  gated-one seen e = ap (λ (l : List ℕ). gate ∷ l) (append-nil (one seen e))

  pub gated-append : (seen xs ys : List (EventValue O)) → all seen (xs ++ ys) ≡ all seen xs ++ all (seen ++ xs) ys
  unfolding gated_bytes
  gated-append seen [] ys = ap (λ (l : List (EventValue O)). all l ys) (sym (append-nil seen))
  gated-append seen (x ∷ xs) ys =
      let more = seen ++ x ∷ [] in
      ap (λ (l : List ℕ). gate ∷ one seen x ++ l) (gated-append more xs ys)
      ∙ ap (λ (l : List (EventValue O)). gate ∷ one seen x ++ (all more xs ++ all l ys)) (append_assoc seen (x ∷ []) xs)
      ∙ ap (λ (l : List ℕ). gate ∷ l) (sym (append_assoc (one seen x) (all more xs) (all (seen ++ x ∷ xs) ys)))

  -- the pieces of a log behind its header, one behind the other
  pub pieces-gated : (seen events : List (EventValue O))
      → concat (record_pieces kind version seen events) ≡ all seen events ++ 0 ∷ []
  unfolding gated_bytes record_pieces
  pieces-gated seen [] = refl
  pieces-gated seen (e ∷ es) =
      let more = seen ++ e ∷ [] in
      ap (λ (l : List ℕ). gate ∷ one seen e ++ l) (pieces-gated more es)
      ∙ ap (λ (l : List ℕ). gate ∷ l) (sym (append_assoc (one seen e) (all more es) (0 ∷ [])))

  -- ---- where the closing gate stands

  -- behind more events
  pub gate_place-all : (events more : List (EventValue O))
      → gate_place kind version (events ++ more) ≡ gate_place kind version events + length (all events more)
  gate_place-all events more =
      omega (arith, ap length (gated-append [] events more), length-append (all [] events) (all events more))

  -- behind one more
  pub gate_place-more : (events : List (EventValue O)) (e : EventValue O)
      → gate_place kind version (events ++ e ∷ []) ≡ gate_place kind version events + 1 + length (one events e)
  gate_place-more events e = omega (arith, gate_place-all events (e ∷ []), ap length (gated-one events e))
