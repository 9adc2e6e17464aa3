-- A piece is read off the bytes ahead, and more of them are read where they are only its beginning. No byte is read
-- behind those that the snapshot has at least, but as the next one of a piece: so all bytes ahead are then of that
-- piece.
use Rattle.std.proofs.Common.{◌≡◌, ℕ, ◌+◌, ◌-◌, ◌<◌, ◌≤◌, ◌⊎◌, inl, inr, Bool, true, false, ltb, List, [], ◌∷◌, ◌++◌}
use Rattle.std.proofs.Common.{length, drop, take, Ok, Err, add-zero, refl, sym, ap, ◌∙◌, append_assoc, arith}
use Rattle.std.specs.Prelude.{IsSome, max}
use Rattle.std.proofs.lemmas.Bool.{ltb-false, ltb-true}
use Rattle.std.proofs.lemmas.List.{append-nil, length-append}
use Rattle.std.proofs.Math.Seq.{drop-append_seam, take-append_seam, take-append-add}
use Rattle.gd_base.specs.declared.fault.FieldFault.{FieldFault}
use Rattle.gd_base.specs.declared.fault.FieldWhy.TheVariants.{Short}
use Rattle.gd_base.specs.declared.fault.ViewWhy.{ViewWhy}
use Rattle.gd_grammar.specs.FieldBytes.{AreBytes}
use Rattle.gd_grammar.specs.Reading.{Reads, place}
use Rattle.gd_grammar.specs.Steady.{Steady, farther}
use Rattle.gd_grammar.specs.declared.sizes.TheConstants.{EVENT_BYTES}
use Rattle.gd_grammar.proofs.Exact.{back_bytes}
use Rattle.gd_outside.specs.Called.{SourceCalled}
use Rattle.gd_outside.specs.Seen.{SeenSource}
use Rattle.gd_outside.specs.Told.{told}
use Rattle.gd_snapshots.specs.Pieces.{Stands, PieceLaws}
use Rattle.gd_snapshots.specs.SnapshotBytes.{in_view, view_why}
use Rattle.gd_handover.specs.Parts.{Grown, IsBad, PartIs, Part, cut}
use Rattle.gd_handover.specs.Pieces.{Settled, OnIs, GoesOn}
use Rattle.gd_handover.specs.declared.fault.SnapshotFault.{SnapshotFault}
use Rattle.gd_handover.specs.declared.fault.SnapshotFault.TheVariants.{Read, Bad, NoMemory}
use Rattle.gd_handover.specs.declared.reader.Reader.{Reader}
use Rattle.gd_handover.proofs.AheadLemmas.{grown-as}
use Rattle.gd_handover.proofs.PartLemmas.{called-as, called-then, same-fault}

-- ---- a piece of the bytes ahead

-- what was left, and how many bytes were taken
pub record TakenOff (bytes rest : List ℕ) : Type 0 where
  pub fits : length rest ≤ length bytes
  pub few : length bytes ≤ length rest + EVENT_BYTES
  pub left : drop (length bytes - length rest) bytes ≡ rest

pub taken-off : {A : Type 0} {read : List ℕ → Reads A} {least : ℕ} → PieceLaws read least
    → (bytes rest : List ℕ) (x : A) → AreBytes bytes → read bytes ≡ Ok (x, rest) → TakenOff bytes rest
taken-off laws bytes rest x are e =
    let stands = laws.stands bytes (x, rest) are e in
    let all = length-append stands.text rest in
    let front : length bytes - length rest ≡ length stands.text = omega (arith, all, ap length stands.is) in
    record {
      fits = omega (arith, all, ap length stands.is);
      few = (laws.steady.ok bytes (x, rest) e).takes;
      left = rw front (ap (λ (b : List ℕ). drop (length stands.text) b) stands.is ∙ drop-append_seam stands.text rest);
    }

-- ---- reading on

same-length : (xs ys : List ℕ) → length (xs ++ ys) ≡ length xs → xs ++ ys ≡ xs
same-length xs [] h = append-nil xs
same-length xs (y ∷ ys) h = absurd (omega (arith, length-append xs (y ∷ ys)))

pub on-failed : (fault : FieldFault) (least : ℕ) (old : Reader) (ahead : List ℕ) {F : Type 0}
    {before after : SeenSource} → fault.why ≡ Short → F → Grown old.ahead ahead before after F → ahead ≡ old.ahead
    → GoesOn fault least (Err Read) old (record { ahead = ahead; place = old.place }) before after
on-failed fault least old ahead short failed grown stays
    = record { grown = grown-as (λ _. failed) grown; place = refl; is = (short, stays) }

pub on-more : (fault : FieldFault) (least : ℕ) (old : Reader) (ahead : List ℕ) {F : Type 0} {before after : SeenSource}
    → fault.why ≡ Short → Grown old.ahead ahead before after F
    → length old.ahead < length ahead → length ahead ≤ max least (length old.ahead + 1)
    → GoesOn fault least (Ok tt) old (record { ahead = ahead; place = old.place }) before after
on-more fault least old ahead short grown longer few
    = record {
      grown = grown-as (λ h. absurd cc) grown;
      place = refl;
      is
          = record { short = short; longer = longer; few = few };
    }

pub on-end : (fault : FieldFault) (least at : ℕ) (why : ViewWhy) (old : Reader) (ahead : List ℕ) {F : Type 0}
    {before after : SeenSource} → Grown old.ahead ahead before after F
    → length ahead ≡ length old.ahead → at ≡ old.place + place ahead fault.left → why ≡ view_why fault.why
    → (fault.why ≡ Short → IsSome after.left → told after.left ≡ [])
    → GoesOn fault least (Err (Bad at why)) old (record { ahead = ahead; place = old.place }) before after
on-end fault least at why old ahead grown same there because end = record {
  grown = grown-as (λ h. absurd cc) grown;
  place = refl;
  is = (
    record { because = because; there = omega arith; end = end },
    grown.is ∙ same-length old.ahead grown.called.taken (sym (ap length grown.is) ∙ same),
  );
}

pub grown-not : (ahead : List ℕ) (here : SeenSource) → Grown ahead ahead here here ⊥
grown-not ahead here = record {
  called = record {
    taken = [];
    handed = record { was = λ t. t; now = λ t. refl };
    count = omega arith;
    cause
        = λ failed. absurd failed;
  };
  is = sym (append-nil ahead);
}

-- ---- waiting for a piece

-- the bytes without the last one are only the beginning of a piece
pub record OneMore {A : Type 0} (read : List ℕ → Reads A) (bytes : List ℕ) : Type 0 where
  pub front : List ℕ
  pub last : ℕ
  pub fault : FieldFault
  pub is : bytes ≡ front ++ last ∷ []
  pub short : read front ≡ Err fault

abbrev pub NoneBehind : {A : Type 0} → (List ℕ → Reads A) → ℕ → List ℕ → Type 0
NoneBehind read least bytes = (length bytes ≤ least) ⊎ OneMore read bytes

-- so far only the beginning of the piece is ahead
pub record Waiting {A : Type 0} (read : List ℕ → Reads A) (least : ℕ) (old now : Reader) (before here : SeenSource) :
    Type 0 where
  pub called : SourceCalled before here ⊥
  pub is : now.ahead ≡ old.ahead ++ called.taken
  pub place : now.place ≡ old.place
  pub few : NoneBehind read least now.ahead

pub waiting-start : {A : Type 0} (read : List ℕ → Reads A) (least : ℕ) (old : Reader) (here : SeenSource)
    → length old.ahead ≤ least → Waiting read least old old here here
waiting-start read least old here few =
    let none = grown-not old.ahead here in
    record { called = none.called; is = none.is; place = refl; few = inl few }

one-came : {A : Type 0} (read : List ℕ → Reads A) (front more : List ℕ) (fault : FieldFault) → read front ≡ Err fault
    → length (front ++ more) ≡ length front + 1 → OneMore read (front ++ more)
one-came read front [] fault short one = absurd (omega (arith, length-append front []))
one-came read front (b ∷ []) fault short one
    = record { front = front; last = b; fault = fault; is = refl; short = short }
one-came read front (b ∷ c ∷ more) fault short one = absurd (omega (arith, length-append front (b ∷ c ∷ more)))

none-behind : {A : Type 0} (read : List ℕ → Reads A) (least : ℕ) (front more : List ℕ) (fault : FieldFault)
    → read front ≡ Err fault → length front < length (front ++ more)
    → length (front ++ more) ≤ max least (length front + 1) → (b : Bool) → ltb least (length (front ++ more)) ≡ b
    → NoneBehind read least (front ++ more)
none-behind read least front more fault short longer few true h = let lt = ltb-true _ _ h
    in inr (one-came read front more fault short (omega arith))
none-behind read least front more fault short longer few false h = let le = ltb-false _ _ h in inl (omega arith)

pub waiting-more : {A : Type 0} (read : List ℕ → Reads A) (least : ℕ) {old now next : Reader}
    {before here there : SeenSource} (fault : FieldFault) → read now.ahead ≡ Err fault
    → Waiting read least old now before here → GoesOn fault least (Ok tt) now next here there
    → Waiting read least old next before there
waiting-more read least {old} {now} {next} fault short w g =
    let more = g.grown.called.taken in
    let longer = rw g.grown.is at g.is.longer in
    let few = rw g.grown.is at g.is.few in
    record {
      called = called-as (λ failed. absurd failed) (called-then w.called g.grown.called);
      is = g.grown.is ∙ ap (λ (b : List ℕ). b ++ more) w.is ∙ append_assoc old.ahead w.called.taken more;
      place = g.place ∙ w.place;
      few = rw g.grown.is (none-behind read least now.ahead more fault short longer few
          (ltb least (length (now.ahead ++ more))) refl);
    }

-- the piece was all that is ahead, or it ends within what the snapshot has at least
left-few : {A : Type 0} (read : List ℕ → Reads A) (least n : ℕ) (bytes rest : List ℕ) (x : A)
    → Stands read n bytes (x, rest) → NoneBehind read least bytes → length rest ≤ least - n
left-few read least n bytes rest x stands (inl few)
    = omega (arith, stands.long, ap length stands.is, length-append stands.text rest)
left-few read least n bytes [] x stands (inr one) = omega arith
left-few read least n bytes (b ∷ rest) x stands (inr one) =
    let k = length one.front - length stands.text in
    let same : one.front ++ one.last ∷ [] ≡ stands.text ++ (b ∷ rest) = sym one.is ∙ stands.is in
    let long : length one.front
    ≡ length stands.text + k
    = omega (arith, ap length same, length-append one.front (one.last ∷ []), length-append stands.text (b ∷ rest))
    in
    let front : one.front ≡ stands.text ++ take k (b ∷ rest) =
    sym (take-append_seam one.front (one.last ∷ [])) ∙ ap (λ (l : List ℕ). take (length one.front) l) same
    ∙ ap (λ (j : ℕ). take j (stands.text ++ (b ∷ rest))) long ∙ take-append-add stands.text (b ∷ rest) k in
    let read_of : read one.front ≡ Ok (x, take k (b ∷ rest)) = ap read front ∙ stands.alone (take k (b ∷ rest)) in
    let none = sym one.short ∙ read_of in
    absurd cc

pub waiting-few : {A : Type 0} {read : List ℕ → Reads A} (least n : ℕ) {old now : Reader} {before here : SeenSource}
    (x : A) (rest : List ℕ)
    → Waiting read least old now before here → Stands read n now.ahead (x, rest) → length rest ≤ least - n
waiting-few {read = read} least n {now = now} x rest w stands = left-few read least n now.ahead rest x stands w.few

pub waiting-taken : {A : Type 0} {read : List ℕ → Reads A} (least n : ℕ) {old now new : Reader}
    {before here : SeenSource} (x : A)
    → Waiting read least old now before here → AreBytes now.ahead → Stands read n now.ahead (x, new.ahead)
    → new.place + length new.ahead ≡ now.place + length now.ahead
    → Part (λ bytes. in_view (read bytes)) (Ok x) old new before here
waiting-taken {read = read} least n {old} {now} {new} x w are stands moved = record {
  called = called-as (λ h. absurd cc) w.called;
  is = record {
    is = λ more. rw (
      ← append_assoc old.ahead w.called.taken more,
      ← w.is,
      stands.is,
      append_assoc stands.text new.ahead
          more,
      stands.alone (new.ahead ++ more),
    ) refl;
    are = back_bytes old.ahead w.called.taken now.ahead are w.is;
    forward = omega (arith, w.place, moved, ap length stands.is, length-append stands.text new.ahead);
    moved = omega (arith, w.place, moved, ap length w.is);
  };
}

-- memory ran out
pub waiting-memory : {A : Type 0} {read : List ℕ → Reads A} {least : ℕ} {old now : Reader} {before here : SeenSource}
    → Waiting read least old now before here → Part (λ bytes. in_view (read bytes)) (Err NoMemory) old now before here
waiting-memory w = record { called = called-as (λ h. absurd cc) w.called; is = tt }

-- ---- the piece ends with a fault

-- all bytes of it
all-ahead : (old ahead next taken came more : List ℕ) → ahead ≡ old ++ taken → next ≡ ahead ++ came → next ≡ ahead
    → old ++ ((taken ++ came) ++ more) ≡ ahead ++ more
all-ahead old ahead next taken came more is grown stays =
    ap (λ (b : List ℕ). old ++ b) (append_assoc taken came more) ∙ sym (append_assoc old taken (came ++ more))
    ∙ ap (λ (b : List ℕ). b ++ (came ++ more)) (sym is) ∙ sym (append_assoc ahead came more)
    ∙ ap (λ (b : List ℕ). b ++ more) (sym grown ∙ stays)

-- the fault with all that follows
fault-whole : {A : Type 0} {read : List ℕ → Reads A} (bytes more : List ℕ) (fault : FieldFault)
    → Steady EVENT_BYTES read → read bytes ≡ Err fault → (fault.why ≡ Short → more ≡ [])
    → read (bytes ++ more) ≡ Err (farther fault more)
fault-whole {read = read} bytes more fault steady e end = elim ((steady.err bytes fault e).more more) [
  | inl short ↦ rw (end short, append-nil, e, add-zero) refl
  | inr other ↦ other
]

-- the bytes ahead are only its beginning, and a read failed
cut-short : {A : Type 0} {read : List ℕ → Reads A} (n : ℕ) (bytes : List ℕ) (fault : FieldFault) → PieceLaws read n
    → read bytes ≡ Err fault → fault.why ≡ Short → in_view (read bytes) ≡ Err cut
cut-short n bytes fault laws e short = rw (e, short, laws.ends bytes fault e short) refl

bad-piece : {A : Type 0} {read : List ℕ → Reads A} (n : ℕ) (old now : Reader) (more : List ℕ) (at : ℕ) (why : ViewWhy)
    (fault : FieldFault) (after : SeenSource) → PieceLaws read n → read now.ahead ≡ Err fault
    → Settled fault now at why after → now.place ≡ old.place → (fault.why ≡ Short → more ≡ [])
    → IsBad (λ bytes. in_view (read bytes)) old (now.ahead ++ more) at why
bad-piece {read = read} n old now more at why fault after laws e settled same end =
    let inside = (laws.steady.err now.ahead fault e).inside in
    let whole = fault-whole now.ahead more fault laws.steady e end in
    let all = length-append now.ahead more in
    record {
      within = place now.ahead fault.left;
      misread = record {
        left = fault.left + length more;
        is = rw (whole, settled.because) refl;
        inside = omega (arith, inside, all);
        there = omega (arith, inside, all);
      };
      there = settled.there ∙ rw same refl;
    }

pub waiting-stops : {A : Type 0} {read : List ℕ → Reads A} (least n : ℕ) {old now next : Reader}
    {before here there : SeenSource} (fault : FieldFault) (e : SnapshotFault) → PieceLaws read n
    → read now.ahead ≡ Err fault
    → Waiting read least old now before here → GoesOn fault least (Err e) now next here there
    → Part (λ bytes. in_view (read bytes)) (Err e) old next before there
waiting-stops {A} {read} least n {old} {now} {next} {before} {here} {there} fault e laws short w g = record {
  called = called-as (λ h. same-fault e Read h) (called-then w.called g.grown.called);
  is = stopped e g.is;
}
  where
    taken : List ℕ
    taken = w.called.taken ++ g.grown.called.taken

    stopped : (d : SnapshotFault) → OnIs fault least (Err d) now next there
        → PartIs (λ bytes. in_view (read bytes)) (Err d) old next taken there.left
    stopped Read is =
        let all = all-ahead old.ahead now.ahead next.ahead w.called.taken g.grown.called.taken [] w.is g.grown.is is.1
        in
        rw (rw (append-nil, append-nil) at all) (cut-short n now.ahead fault laws short is.0)
    stopped (Bad at why) is = λ known.
        let all = all-ahead old.ahead now.ahead next.ahead w.called.taken g.grown.called.taken (told there.left) w.is
        g.grown.is is.1 in
        rw all (bad-piece n old now (told there.left) at why fault there laws short is.0 w.place
        (λ s. is.0.end s known))
    stopped NoMemory is = absurd is
