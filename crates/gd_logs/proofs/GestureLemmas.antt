-- The piece of a gesture, event by event, and what is said of it where a call succeeded or failed.
use Rattle.std.proofs.Common.{◌≡◌, ℕ, suc, ◌+◌, ◌≤◌, List, [], ◌∷◌, ◌++◌, length, take, drop, refl, sym, ap, ap₂}
use Rattle.std.proofs.Common.{subst, ◌∙◌, append_assoc, arith}
use Rattle.std.specs.Prelude.{Result, Ok, Err, OnErr, OnOk, is_ok, if◌then◌else◌}
use Rattle.std.proofs.lemmas.List.{append-nil, drop-drop, length-append, length-take-le}
use Rattle.gd_events.specs.Events.{EventValue}
use Rattle.gd_base.specs.declared.version.Version.{Version}
use Rattle.gd_grammar.specs.Kinds.{LogKind}
use Rattle.gd_grammar.specs.Chains.{AreChains}
use Rattle.gd_grammar.specs.LogBytes.{gate, gated_bytes, record_bytes}
use Rattle.gd_grammar.proofs.GatedBytes.{gated-append, gated-one}
use Rattle.gd_outside.specs.Journals.{put_at}
use Rattle.gd_logs.proofs.WriterLemmas.{put_at-front}
use Rattle.gd_logs.specs.Written.{AreRecords, IsPiece, Records}

pub on_ok_map : {T E P Q : Type 0} (r : Result T E) → (P → Q) → OnOk r P → OnOk r Q
on_ok_map (Ok x) f p = f p
on_ok_map (Err e) f p = tt

pub on_err_map : {T E P Q : Type 0} (r : Result T E) → (P → Q) → OnErr r P → OnErr r Q
on_err_map (Ok x) f p = tt
on_err_map (Err e) f p = f p

pub on_ok_where : {T E A Q : Type 0} (r : Result T E) (now there before : A) → now ≡ (if is_ok r then there else before)
    → (now ≡ there → Q)
    → OnOk r Q
on_ok_where (Ok x) now there before is f = f is
on_ok_where (Err e) now there before is f = tt

-- pieces that are put one after another, each with a closed gate that the next one opens or takes, are one piece
pub put_at-joined : (old a b : List ℕ) (place : ℕ) → place ≤ length old
    → put_at (put_at old place (a ++ 0 ∷ [])) (place + length a) (b ++ 0 ∷ []) ≡ put_at old place ((a ++ b) ++ 0 ∷ [])
put_at-joined old a b place inside =
    let front = take place old in
    let rest = drop (place + length (a ++ 0 ∷ [])) old in
    let mid : put_at old place (a ++ 0 ∷ []) ≡ (front ++ a) ++ 0 ∷ rest =
    ap (λ (l : List ℕ). l ++ rest) (sym (append_assoc front a (0 ∷ []))) ∙ append_assoc (front ++ a) (0 ∷ []) rest in
    let at : place + length a
    ≡ length (front ++ a) = omega (arith, length-append front a, length-take-le place old inside) in
    let before : (front ++ a) ++ (b ++ 0 ∷ []) ≡ front ++ ((a ++ b) ++ 0 ∷ []) =
    append_assoc front a (b ++ 0 ∷ []) ∙ ap (λ (l : List ℕ). front ++ l) (sym (append_assoc a b (0 ∷ []))) in
    let longer : length (b ++ 0 ∷ []) ≡ suc (length b) = omega (arith, length-append b (0 ∷ [])) in
    let behind : drop (length (b ++ 0 ∷ [])) (0 ∷ rest) ≡ drop (place + length ((a ++ b) ++ 0 ∷ [])) old =
    ap (λ (n : ℕ). drop n (0 ∷ rest)) longer ∙ drop-drop (length b) (place + length (a ++ 0 ∷ [])) old
    ∙ ap (λ (n : ℕ). drop n old)
    (omega (arith, length-append a (0 ∷ []), length-append (a ++ b) (0 ∷ []), length-append a b)) in
    ap (λ (l : List ℕ). put_at l (place + length a) (b ++ 0 ∷ [])) mid
    ∙ put_at-front (front ++ a) (0 ∷ rest) (b ++ 0 ∷ []) (place + length a) at
    ∙ ap₂ (λ (l r : List ℕ). l ++ r) before behind

module _ {O : Type 0} (kind : LogKind O) where
  -- events that are added one after another, or together
  pub together : (version : Version) (contents : List ℕ) (place : ℕ) (seen first others : List (EventValue O))
      → place ≤ length contents
      → put_at (put_at contents place (gated_bytes kind version seen first ++ 0 ∷ []))
      (place + length (gated_bytes kind version seen first)) (gated_bytes kind version (seen ++ first) others ++ 0 ∷ [])
      ≡ put_at contents place (gated_bytes kind version seen (first ++ others) ++ 0 ∷ [])
  together version contents place seen first others inside =
      put_at-joined contents (gated_bytes kind version seen first)
      (gated_bytes kind version (seen ++ first) others) place inside
      ∙ ap (λ (l : List ℕ). put_at contents place (l ++ 0 ∷ [])) (sym (gated-append kind version seen first others))

  -- of one event
  pub piece-one : (seen : List (EventValue O)) (e : EventValue O) (piece : List ℕ)
      → piece ≡ record_bytes kind kind.newest seen e ++ 0 ∷ [] → IsPiece kind seen e [] piece
  unfolding gated_bytes
  piece-one seen e piece is =
      is ∙ ap (λ (l : List ℕ). l ++ 0 ∷ []) (sym (append-nil (record_bytes kind kind.newest seen e)))

  -- its place
  pub one-long : (place place' : ℕ) (seen : List (EventValue O)) (e : EventValue O) (piece : List ℕ)
      → place' ≡ place + length piece → piece ≡ record_bytes kind kind.newest seen e ++ 0 ∷ []
      → place' ≡ place + 1 + length (record_bytes kind kind.newest seen e)
  one-long place place' seen e piece moved is =
      omega (arith, moved, ap length is, length-append (record_bytes kind kind.newest seen e) (0 ∷ []))

  -- some events are a first one and others, and this is their piece
  pub record Parted (seen events : List (EventValue O)) (piece : List ℕ) : Type 0 where
    pub first : EventValue O
    pub others : List (EventValue O)
    pub are : first ∷ others ≡ events
    pub is : IsPiece kind seen first others piece

  pub parted : (seen events : List (EventValue O)) (records : Records) (closed piece : List ℕ)
      → 1 ≤ length records.bytes → AreRecords kind seen events records → closed ≡ records.bytes ++ 0 ∷ []
      → piece ≡ drop 1 closed
      → Parted seen events piece
  unfolding gated_bytes
  parted seen [] records closed piece some are is behind = absurd (omega (arith, some, ap length are.spelled))
  parted seen (e ∷ es) records closed piece some are is behind =
      record {
        first = e;
        others = es;
        are = refl;
        is = behind ∙ ap (drop 1) (is ∙ ap (λ (l : List ℕ). l ++ 0 ∷ []) are.spelled);
      }

  -- ---- the records of events

  -- none so far
  pub records-none : (seen : List (EventValue O)) (bytes chains before : List ℕ) → bytes ≡ [] → chains ≡ before
      → AreChains kind before seen → AreRecords kind seen [] (record { bytes = bytes; chains = chains })
  unfolding gated_bytes
  records-none seen bytes chains before none same are
      = record { spelled = none; chained = rw (append-nil seen, same) are }

  -- and one more
  pub records-more : (seen events : List (EventValue O)) (e : EventValue O) (before after : Records) (one : List ℕ)
      → AreRecords kind seen events before → one ≡ gate ∷ record_bytes kind kind.newest (seen ++ events) e
      → after.bytes ≡ before.bytes ++ one
      → AreChains kind after.chains ((seen ++ events) ++ e ∷ []) → AreRecords kind seen (events ++ e ∷ []) after
  records-more seen events e before after one are is added chained = record {
    spelled =
        added ∙ ap₂ (λ (l r : List ℕ). l ++ r) are.spelled (is ∙ sym (gated-one kind kind.newest (seen ++ events) e))
        ∙ sym (gated-append kind kind.newest seen events (e ∷ []));
    chained = subst (AreChains kind after.chains) (append_assoc seen events (e ∷ [])) chained;
  }
