-- How a member goes on standing for a reference site.
use Rattle.std.proofs.Common.{◌≡◌, ◌≢◌, ◌∙◌, ℕ, ◌+◌, ◌<◌, ◌≤◌, ◌^◌, Bool, true, false, cond, List, [], ◌∷◌, ◌++◌}
use Rattle.std.proofs.Common.{length, refl, sym, ap, subst, arith, append-nil, append_assoc, length-append, ◌==◌}
use Rattle.std.proofs.Common.{eqb-true}
use Rattle.std.proofs.lemmas.List.{append_cancel_left}
use Rattle.std.specs.Prelude.{Option, Result, Ok, nat_le}
use Rattle.gd_backs.proofs.NextEvents.{with_events-is}
use Rattle.gd_base.specs.Stamps.{Stamp}
use Rattle.gd_base.specs.declared.note.Note.{Note}
use Rattle.gd_base.specs.declared.refusal.EditRefusal.{EditRefusal}
use Rattle.gd_base.specs.declared.version.Version.TheVariants.{Three}
use Rattle.gd_events.specs.Events.{Event}
use Rattle.gd_events.specs.Sound.{IsOp}
use Rattle.gd_grammar.proofs.DrawingKind.{drawing_laws}
use Rattle.gd_grammar.proofs.GatedBytes.{gate_place-all}
use Rattle.gd_grammar.specs.Drawings.{drawings}
use Rattle.gd_grammar.specs.LogBytes.{gated_bytes}
use Rattle.gd_lines.specs.Edits.{Edit}
use Rattle.gd_lines.specs.declared.command.Turn.{Turn}
use Rattle.gd_logs.proofs.SpelledLemmas.{gated-few}
use Rattle.gd_logs.specs.Written.{IsRuled}
use Rattle.gd_member.specs.Members.{IsLive, MemberValue}
use Rattle.gd_member.specs.Standing.{Stands}
use Rattle.gd_member.specs.Unwritten.{AreUnwritten, piece_of}
use Rattle.gd_protocol.proofs.Journals.{well_ruled}
use Rattle.gd_reference.specs.Backs.{no_backs, with_gesture}
use Rattle.gd_reference.specs.Judging.{edit}
use Rattle.gd_reference.specs.SlowSite.{SlowSite, journal_header, resumed}
use Rattle.gd_reference.specs.TakeBack.{BackRefusal, after_edit, after_turn, events_in, turn, with_made, with_turned}
use Rattle.gd_reference.specs.World.{Focuses, Names, after_line, most_notes, noted, refocused, renamed}
use Rattle.gd_site.proofs.Counts.{held_few}
use Rattle.gd_site.specs.Sites.{StandsFor}
use Rattle.gd_takeback.specs.Standing.{StandsWith}

-- ---- the events that it holds then

-- after an edit
pub edit_held : (slow : SlowSite) (wanted : Edit) (e : Event) → edit slow wanted ≡ Ok e
    → (after_edit slow wanted).held ≡ slow.held ++ e ∷ []
unfolding after_edit
edit_held slow wanted e is =
    ap (λ (r : Result Event EditRefusal). (with_made slow (events_in r) with_gesture).held) is
    ∙ ap (λ (s : SlowSite). s.held) (with_events-is slow (e ∷ []))

-- after an undo, or a redo
pub turn_held : (slow : SlowSite) (which : Turn) (es : List Event) → turn slow which ≡ Ok es
    → (after_turn slow which).held ≡ slow.held ++ es
unfolding after_turn
turn_held slow which es is =
    ap (λ (r : Result (List Event) BackRefusal). (with_turned slow which r).held) is
    ∙ ap (λ (s : SlowSite). s.held) (with_events-is slow es)

-- ---- what it stands for then

-- these events came, and were put with the unwritten ones
pub stands_more : {slow then : SlowSite} {written : List Event} {m m' : MemberValue} → Stands slow written m
    → (es : List Event)
    → then.held ≡ slow.held ++ es → IsLive m' → StandsWith then m'.site m'.backs
    → ((others : List Event) → AreUnwritten written others m.unwritten
    → AreUnwritten written (others ++ es) m'.unwritten)
    → Stands then written m'
stands_more {slow} {then} {written} {m} {m'} st es held live stands put = record {
  live = live;
  stands = stands;
  others = st.others ++ es;
  held = held ∙ ap (λ l. l ++ es) st.held ∙ append_assoc written st.others es;
  unwritten = put st.others st.unwritten;
}

-- none came
pub stands_as : {slow then : SlowSite} {written : List Event} {m m' : MemberValue} → Stands slow written m
    → then.held ≡ slow.held
    → IsLive m' → StandsWith then m'.site m'.backs
    → ((others : List Event) → AreUnwritten written others m.unwritten → AreUnwritten written others m'.unwritten)
    → Stands then written m'
stands_as st held live stands put = record {
  live = live;
  stands = stands;
  others = st.others;
  held = held ∙ st.held;
  unwritten = put st.others st.unwritten;
}

-- ---- its notes

-- the reference site has the same session, the same events and the same backs
record SameBut (slow then : SlowSite) : Type 0 where
  pub held : then.held ≡ slow.held
  pub backs : then.backs ≡ slow.backs

noted_same : (slow : SlowSite) (note : Note) → SameBut slow (noted slow note)
noted_same slow note =
    by (nat_le most_notes (slow.notes slow.me).number) (record slow { notes = _ })
    (record { held = refl; backs = refl })
  where
    by : (full : Bool) (then : SlowSite) → SameBut slow then → SameBut slow (cond full slow then)
    by true then same = record { held = refl; backs = refl }
    by false then same = same

named_same : (slow : SlowSite) (name : List ℕ) → SameBut slow (after_line slow (Names name))
unfolding after_line
named_same slow name = noted_same slow (renamed (slow.notes slow.me) name)

focused_same : (slow : SlowSite) (focus : Option Stamp) → SameBut slow (after_line slow (Focuses focus))
unfolding after_line
focused_same slow focus = noted_same slow (refocused (slow.notes slow.me) focus)

stands_noted : {slow then : SlowSite} {written : List Event} {m m' : MemberValue} → Stands slow written m
    → SameBut slow then
    → StandsFor then m'.site → m'.backs ≡ m.backs → m'.unwritten ≡ m.unwritten → IsLive m' → Stands then written m'
stands_noted {slow} {then} {written} {m} {m'} st same site backs unwritten live =
    stands_as st same.held live (record { site = site; backs_are = backs ∙ st.stands.backs_are ∙ sym same.backs })
    (λ others are. subst (λ u. AreUnwritten written others u) (sym unwritten) are)

pub stands_named : {slow : SlowSite} {written : List Event} {m m' : MemberValue} → Stands slow written m
    → (name : List ℕ)
    → StandsFor (after_line slow (Names name)) m'.site → m'.backs ≡ m.backs → m'.unwritten ≡ m.unwritten → IsLive m'
    → Stands (after_line slow (Names name)) written m'
stands_named {slow} st name site backs unwritten live = stands_noted st (named_same slow name) site backs unwritten live

pub stands_focused : {slow : SlowSite} {written : List Event} {m m' : MemberValue} → Stands slow written m
    → (focus : Option Stamp) → StandsFor (after_line slow (Focuses focus)) m'.site → m'.backs ≡ m.backs
    → m'.unwritten ≡ m.unwritten → IsLive m' → Stands (after_line slow (Focuses focus)) written m'
stands_focused {slow} st focus site backs unwritten live =
    stands_noted st (focused_same slow focus) site backs unwritten live

-- ---- its log

module _ {slow : SlowSite} {written : List Event} {m : MemberValue} (st : Stands slow written m) where
  -- what it holds obeys the rules of a log
  pub ruled : IsRuled IsOp drawings (journal_header slow) (written ++ st.others)
  ruled =
      subst (λ es. IsRuled IsOp drawings (journal_header slow) es) st.held (well_ruled slow st.stands.site.well)

  -- there is no more of it than 64 bits can count
  pub near : m.unwritten.place + length m.unwritten.bytes < 2 ^ 63
  near =
      let all = written ++ st.others in
      omega (
        arith,
        st.unwritten.place_is,
        ap length st.unwritten.bytes_are,
        piece_few written st.others,
        gate_place-all drawings Three written st.others,
        gated-few drawing_laws (journal_header slow) [] all ruled.next,
        ap length st.held,
        held_few slow st.stands.site.well,
      )
    where
      piece_few : (written others : List Event)
          → length (piece_of written others) ≤ length (gated_bytes drawings Three written others) + 1
      piece_few written [] = omega arith
      piece_few written (e ∷ es) = omega (arith, length-append (gated_bytes drawings Three written (e ∷ es)) (0 ∷ []))

  -- once its journal has what it holds
  pub stands_written : {m' : MemberValue} → IsLive m' → m'.site ≡ m.site → m'.backs ≡ m.backs
      → AreUnwritten (written ++ st.others) [] m'.unwritten → Stands slow slow.held m'
  stands_written {m'} live site backs unwritten = record {
    live = live;
    stands = record {
      site = subst (λ s. StandsFor slow s) (sym site) st.stands.site;
      backs_are = backs ∙ st.stands.backs_are;
    };
    others = [];
    held = sym (append-nil slow.held);
    unwritten = subst (λ es. AreUnwritten es [] m'.unwritten) (sym st.held) unwritten;
  }

-- ---- at its beginning

-- the journal has all that it holds
pub begun : (slow : SlowSite) {m : MemberValue} → IsLive m → StandsFor slow m.site → m.backs ≡ slow.backs
    → AreUnwritten slow.held [] m.unwritten → Stands slow slow.held m
begun slow live site backs unwritten = record {
  live = live;
  stands = record { site = site; backs_are = backs };
  others = [];
  held = sym (append-nil slow.held);
  unwritten = unwritten;
}

-- as one that begins anew with these events
pub begun_anew : (me sites session : ℕ) (events : List Event) {m : MemberValue} → IsLive m
    → StandsFor (resumed me sites session events) m.site → m.backs ≡ no_backs → AreUnwritten events [] m.unwritten
    → Stands (resumed me sites session events) events m
unfolding resumed
begun_anew me sites session events live site backs unwritten = record {
  live = live;
  stands = record { site = site; backs_are = backs };
  others = [];
  held = sym (append-nil events);
  unwritten = unwritten;
}

-- ---- whether its journal has all

none_of : (xs ys : List Event) → xs ++ ys ≡ xs → ys ≡ []
none_of xs ys same = append_cancel_left xs ys [] (same ∙ sym (append-nil xs))

piece_none : (written others : List Event) → (length (piece_of written others) == 0) ≡ true → others ≡ []
piece_none written [] none = refl
piece_none written (e ∷ es) none =
    absurd (omega (
      arith,
      eqb-true (length (gated_bytes drawings Three written (e ∷ es) ++ 0 ∷ [])) 0 none,
      length-append (gated_bytes drawings Three written (e ∷ es)) (0 ∷ []),
    ))

module _ {slow : SlowSite} {written : List Event} {m : MemberValue} (st : Stands slow written m) where
  pub has_all : (length m.unwritten.bytes == 0) ≡ true → slow.held ≡ written
  has_all none =
      st.held
      ∙ ap (λ es. written ++ es)
      (piece_none written st.others
      (ap (λ (bytes : List ℕ). length bytes == 0) (sym st.unwritten.bytes_are) ∙ none))
      ∙ append-nil written

  pub lacks_some : (length m.unwritten.bytes == 0) ≡ false → slow.held ≢ written
  lacks_some some same =
      let none : st.others ≡ [] = none_of written st.others (sym st.held ∙ same) in
      let bytes : m.unwritten.bytes ≡ [] = st.unwritten.bytes_are ∙ ap (piece_of written) none in
      let empty : (length m.unwritten.bytes == 0) ≡ true = ap (λ (b : List ℕ). length b == 0) bytes in
      let differ : true ≡ false = sym empty ∙ some in
      absurd cc
