-- What a member's bytes come to in a journal.
use Rattle.std.proofs.Common.{◌≡◌, ◌∙◌, ℕ, ◌+◌, ◌<◌, ◌≤◌, ◌^◌, List, [], ◌∷◌, ◌++◌, length, take, drop, refl, sym, ap}
use Rattle.std.proofs.Common.{subst, arith, append-nil, append_assoc}
use Rattle.std.proofs.lemmas.List.{take-append-drop, take_at}
use Rattle.gd_base.specs.declared.ranges.TheConstants.{SITES}
use Rattle.gd_base.specs.declared.version.Version.TheVariants.{Three}
use Rattle.gd_events.specs.Events.{Event}
use Rattle.gd_events.specs.Sound.{IsOp}
use Rattle.gd_grammar.proofs.DrawingKind.{drawing_laws}
use Rattle.gd_grammar.specs.Closing.{Closes, gate_place}
use Rattle.gd_grammar.specs.Drawings.{drawings}
use Rattle.gd_grammar.specs.HeaderBytes.{Header}
use Rattle.gd_grammar.specs.LogBytes.{gated_bytes, logged}
use Rattle.gd_logs.proofs.ClosingLemmas.{closes-all, closes_logged, front-length, front_of}
use Rattle.gd_logs.specs.Written.{AreNext, IsRuled}
use Rattle.gd_member.proofs.Standing.{ruled}
use Rattle.gd_member.specs.Members.{MemberValue}
use Rattle.gd_member.specs.Standing.{Stands}
use Rattle.gd_member.specs.Unwritten.{piece_of}
use Rattle.gd_outside.specs.Journals.{put_at}
use Rattle.gd_reference.specs.Rejoin.{Events, found, node_header}
use Rattle.gd_reference.specs.SlowSite.{SlowSite, journal_header}
use Rattle.gd_rejoin.proofs.FoundLemmas.{found-events}

-- with events put over its closing gate, from an open gate on, a log is the log of those too
closes_put : (h : Header) (events es : List Event) (old : List ℕ) → IsRuled IsOp drawings h (events ++ es)
    → Closes drawings h events old
    → Closes drawings h (events ++ es)
    (put_at old (gate_place drawings h.version events) (gated_bytes drawings h.version events es ++ 0 ∷ []))
closes_put h events es old rules c =
    let front = front_of drawings h events in
    let gated = gated_bytes drawings h.version events es in
    let piece = gated ++ 0 ∷ [] in
    let place = gate_place drawings h.version events in
    let rest = drop (place + length piece) old in
    let before : take place old ≡ front =
    ap (take place) c.is ∙ take_at front (c.closing ∷ c.rest) place (omega (arith, front-length drawings h events)) in
    closes-all drawing_laws h events es rest _ rules
    (ap (λ l. (l ++ piece) ++ rest) before ∙ append_assoc front piece rest
    ∙ ap (λ l. front ++ l) (append_assoc gated (0 ∷ []) rest))

-- nothing is put
put_nothing : (old : List ℕ) (place : ℕ) → put_at old place [] ≡ old
put_nothing old place =
    ap (λ l. l ++ drop (place + 0) old) (append-nil (take place old))
    ∙ ap (λ n. take place old ++ drop n old) (omega arith) ∙ take-append-drop place old

-- the same with the bytes of the events
closes_piece : (h : Header) (events es : List Event) (old : List ℕ) → h.version ≡ Three
    → IsRuled IsOp drawings h (events ++ es) → Closes drawings h events old
    → Closes drawings h (events ++ es) (put_at old (gate_place drawings Three events) (piece_of events es))
closes_piece h events [] old newest rules c =
    subst (λ bytes. Closes drawings h (events ++ []) bytes)
    (sym (put_nothing old (gate_place drawings Three events)))
    (subst (λ l. Closes drawings h l old) (sym (append-nil events)) c)
closes_piece h events (e ∷ es) old newest rules c =
    subst
    (λ v. Closes drawings h (events ++ e ∷ es)
    (put_at old (gate_place drawings v events) (gated_bytes drawings v events (e ∷ es) ++ 0 ∷ [])))
    newest (closes_put h events (e ∷ es) old rules c)

module _ (slow : SlowSite) (written : List Event) (m : MemberValue) (journal : List ℕ) (st : Stands slow written m)
    (c : Closes drawings (journal_header slow) written journal) where
  pub closes_all : Closes drawings (journal_header slow) slow.held (put_at journal m.unwritten.place m.unwritten.bytes)
  closes_all =
      subst (λ es. Closes drawings (journal_header slow) es (put_at journal m.unwritten.place m.unwritten.bytes))
      (sym st.held)
      (subst
      (λ place. Closes drawings (journal_header slow) (written ++ st.others)
      (put_at journal place m.unwritten.bytes))
      (sym st.unwritten.place_is)
      (subst
      (λ bytes. Closes drawings (journal_header slow) (written ++ st.others)
      (put_at journal (gate_place drawings Three written) bytes))
      (sym st.unwritten.bytes_are)
      (closes_piece (journal_header slow) written st.others journal refl (ruled st) c)))

  pub found_all : found (journal_header slow) (put_at journal m.unwritten.place m.unwritten.bytes) ≡ Events slow.held
  found_all = found-events (journal_header slow) _ slow.held closes_all

-- the log of no events
pub none_ruled : (me sites session : ℕ) → 1 ≤ me → me ≤ sites → sites ≤ SITES → session < 2 ^ 32
    → IsRuled IsOp drawings (node_header me sites session) []
unfolding AreNext
none_ruled me sites session from to few session_fits = record {
  header = record { site_above = from; site_below = to; few = few };
  session = session_fits;
  version = refl;
  next = tt;
}

pub none_found : (me sites session : ℕ) → 1 ≤ me → me ≤ sites → sites ≤ SITES → session < 2 ^ 32
    → found (node_header me sites session) (logged drawings (node_header me sites session) []) ≡ Events []
none_found me sites session from to few session_fits =
    let h = node_header me sites session in
    found-events h _ [] (closes_logged drawing_laws h [] (none_ruled me sites session from to few session_fits))
