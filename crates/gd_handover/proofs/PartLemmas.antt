-- Parts of a snapshot that are read one behind the other.
use Rattle.std.proofs.Common.{◌≡◌, ℕ, zero, suc, ◌+◌, ◌-◌, ◌≤◌, List, [], ◌∷◌, ◌++◌, length, Option, Result, Ok, Err}
use Rattle.std.proofs.Common.{refl, ap, ◌∙◌, append_assoc, arith}
use Rattle.std.proofs.lemmas.List.{length-append}
use Rattle.gd_base.specs.Results.{◌>>=◌}
use Rattle.gd_base.specs.declared.fault.ViewWhy.{ViewWhy}
use Rattle.gd_grammar.specs.FieldBytes.{AreBytes}
use Rattle.gd_outside.proofs.ToldLemmas.{hands_out_then}
use Rattle.gd_outside.specs.Called.{SourceCalled}
use Rattle.gd_outside.specs.Seen.{SeenSource}
use Rattle.gd_outside.specs.Told.{told}
use Rattle.gd_snapshots.specs.SnapshotBytes.{Views, misread_at}
use Rattle.gd_handover.specs.Parts.{PartIs, Part}
use Rattle.gd_handover.specs.declared.fault.SnapshotFault.{SnapshotFault}
use Rattle.gd_handover.specs.declared.fault.SnapshotFault.TheVariants.{Read, Bad, NoMemory}
use Rattle.gd_handover.specs.declared.reader.Reader.{Reader}

pub are-both : (xs ys : List ℕ) → AreBytes xs → AreBytes ys → AreBytes (xs ++ ys)
are-both [] ys h k i = k i
are-both (x ∷ xs) ys h k zero = h zero
are-both (x ∷ xs) ys h k (suc i) = are-both xs ys (λ j. h (suc j)) k i

-- ---- calls on a source, and what they took

-- the same where a failure is told in other words
abbrev pub called-as : {a b : SeenSource} {F G : Type 0} → (G → F) → SourceCalled a b F → SourceCalled a b G
called-as f h = record { taken = h.taken; handed = h.handed; count = h.count; cause = λ failed. h.cause (f failed) }

abbrev pub called-then : {a b c : SeenSource} {F G : Type 0} → SourceCalled a b F → SourceCalled b c G
    → SourceCalled a c G
called-then h k = record {
  taken = h.taken ++ k.taken;
  handed = hands_out_then h.handed k.handed;
  count = omega (arith, h.count, k.count);
  cause = λ failed. omega (arith, h.count, k.cause failed);
}

abbrev pub fails : {A : Type 0} → SnapshotFault → Result A SnapshotFault
fails e = Err e

-- the same fault of a part and of the whole
pub same-fault : {A B : Type 0} (e d : SnapshotFault) → fails {A = B} e ≡ fails d → fails {A = A} e ≡ fails d
same-fault e d h = let k : e ≡ d = cc in ap fails k

-- ---- a part is read up to some place

-- What the whole is, is what `rest` gives from here on.
pub record Standing {B : Type 0} (whole rest : List ℕ → Views B) (old now : Reader) (before here : SeenSource) : Type 0
  where
    pub called : SourceCalled before here ⊥
    pub are : AreBytes called.taken
    pub is : (more : List ℕ) → whole (old.ahead ++ (called.taken ++ more)) ≡ rest (now.ahead ++ more)
    pub forward : old.place ≤ now.place
    pub moved : now.place + length now.ahead ≡ old.place + length (old.ahead ++ called.taken)

pub standing-start : {B : Type 0} (whole rest : List ℕ → Views B) (here : Reader) (source : SeenSource)
    → ((bytes : List ℕ) → whole bytes ≡ rest bytes) → Standing whole rest here here source source
standing-start whole rest here source is = record {
  called = record {
    taken = [];
    handed = record { was = λ t. t; now = λ t. refl };
    count = omega arith;
    cause
        = λ failed. absurd failed;
  };
  are = λ i. omega arith;
  is = λ more. is (here.ahead ++ more);
  forward = omega arith;
  moved = omega (arith, length-append here.ahead []);
}

then-is : {B : Type 0} {whole rest : List ℕ → Views B} {r s : Reader} {a b : SeenSource}
    (st : Standing whole rest r s a b) (result : Result B SnapshotFault) (t : Reader) (q : List ℕ)
    (left : Option (List ℕ))
    → PartIs rest result s t q left → PartIs whole result r t (st.called.taken ++ q) left
then-is {r = r} {s = s} st (Ok y) t q left two = record {
  is = λ more. rw (append_assoc st.called.taken q more, st.is (q ++ more)) (two.is more);
  are = are-both st.called.taken q st.are two.are;
  forward = omega (arith, st.forward, two.forward);
  moved = omega (
    arith,
    st.moved,
    two.moved,
    length-append r.ahead st.called.taken,
    length-append s.ahead q,
    length-append r.ahead (st.called.taken ++ q),
    length-append st.called.taken q,
  );
}
then-is st (Err Read) t q left two = rw (st.is q) two
then-is {r = r} {s = s} st (Err (Bad at why)) t q left two = λ known.
    let bad = two known in
    let before = length-append r.ahead st.called.taken in
    let middle = length-append s.ahead (q ++ told left) in
    let all = length-append r.ahead (st.called.taken ++ (q ++ told left)) in
    let behind = length-append st.called.taken (q ++ told left) in
    rw (append_assoc st.called.taken q (told left)) record {
      within = bad.within + (s.place - r.place);
      misread = record {
        left = bad.misread.left;
        is = rw (st.is (q ++ told left)) bad.misread.is;
        inside = omega (arith, st.forward, st.moved, bad.misread.inside);
        there = omega (arith, st.forward, st.moved, bad.misread.inside, bad.misread.there);
      };
      there = omega (arith, st.forward, bad.there);
    }
then-is st (Err NoMemory) t q left two = tt

-- the rest is read
pub standing-then : {B : Type 0} {whole rest : List ℕ → Views B} {r s t : Reader} {a b c : SeenSource}
    → Standing whole rest r s a b → (result : Result B SnapshotFault) → Part rest result s t b c
    → Part whole result r t a c
standing-then {t = t} {c = c} st result p
    = record { called = called-then st.called p.called; is = then-is st result t p.called.taken c.left p.is }

-- some of the rest is read
pub standing-again : {B : Type 0} {whole rest last : List ℕ → Views B} {r s t : Reader} {a b c : SeenSource}
    → Standing whole rest r s a b → Standing rest last s t b c → Standing whole last r t a c
standing-again {r = r} {s = s} st two = record {
  called = called-then st.called two.called;
  are = are-both st.called.taken two.called.taken st.are two.are;
  is = λ more. rw (append_assoc st.called.taken two.called.taken more, st.is (two.called.taken ++ more)) (two.is more);
  forward = omega (arith, st.forward, two.forward);
  moved = omega (
    arith,
    st.moved,
    two.moved,
    length-append r.ahead st.called.taken,
    length-append s.ahead two.called.taken,
    length-append r.ahead (st.called.taken ++ two.called.taken),
    length-append st.called.taken two.called.taken,
  );
}

-- nothing is left to be read
pub standing-end : {B : Type 0} {whole rest : List ℕ → Views B} {r s : Reader} {a b : SeenSource} (y : B)
    → ((bytes : List ℕ) → rest bytes ≡ Ok (y, bytes)) → Standing whole rest r s a b → Part whole (Ok y) r s a b
standing-end {s = s} y end st = record {
  called = called-as (λ h. absurd cc) st.called;
  is = record { is = λ more. st.is more ∙ end (s.ahead ++ more); are = st.are; forward = st.forward; moved = st.moved };
}

-- memory ran out
pub standing-memory : {B : Type 0} {whole rest : List ℕ → Views B} {r s : Reader} {a b : SeenSource}
    → Standing whole rest r s a b → Part whole (Err NoMemory) r s a b
standing-memory st = record { called = called-as (λ h. absurd cc) st.called; is = tt }

-- ---- a part, and what follows it

module _ {A B : Type 0} (first : List ℕ → Views A) (follows : List ℕ → A → List ℕ → Views B) (whole : List ℕ → Views B)
    (is : (bytes : List ℕ) → whole bytes ≡ (first bytes >>= λ x. follows bytes x.0 x.1)) where
  stops-is : (e : SnapshotFault) (r s : Reader) (taken : List ℕ) (left : Option (List ℕ))
      → PartIs first (Err e) r s taken left → PartIs whole (Err e) r s taken left
  stops-is Read r s taken left h = rw (is (r.ahead ++ taken), h) refl
  stops-is (Bad at why) r s taken left h = λ t.
      let bad = h t in
      record {
        within = bad.within;
        misread
            = record {
              left = bad.misread.left;
              is
                  = rw (is (r.ahead ++ (taken ++ told left)), bad.misread.is) refl;
              inside = bad.misread.inside;
              there
                  = bad.misread.there;
            };
        there = bad.there;
      }
  stops-is NoMemory r s taken left h = tt

  -- the first part ends with a fault
  pub part-stops : (e : SnapshotFault) {r s : Reader} {a b : SeenSource} → Part first (Err e) r s a b
      → Part whole (Err e) r s a b
  part-stops e {r} {s} {a} {b} p
      = record {
        called = called-as (λ h. same-fault e Read h) p.called;
        is
            = stops-is e r s p.called.taken b.left p.is;
      }

  -- the first part is read, and `rest` follows
  pub part-standing : (x : A) (rest : List ℕ → Views B)
      → ((bytes behind : List ℕ) → follows bytes x behind ≡ rest behind) → {r s : Reader} {a b : SeenSource}
      → Part first (Ok x) r s a b → Standing whole rest r s a b
  part-standing x rest on {r} p =
      let one = p.is in
      record {
        called = called-as (λ failed. absurd failed) p.called;
        are = one.are;
        is = λ more. rw (is (r.ahead ++ (p.called.taken ++ more)), one.is more)
            (on (r.ahead ++ (p.called.taken ++ more)) _);
        forward = one.forward;
        moved = one.moved;
      }

  -- nothing more is read
  pub part-ok : (x : A) (y : B) → ((bytes behind : List ℕ) → follows bytes x behind ≡ Ok (y, behind))
      → {r s : Reader} {a b : SeenSource} → Part first (Ok x) r s a b → Part whole (Ok y) r s a b
  part-ok x y on p = standing-end y (λ bytes. refl) (part-standing x (λ behind. Ok (y, behind)) on p)

  -- there is a fault at the first part's first byte
  pub part-refused : (x : A) (why : ViewWhy)
      → ((bytes behind : List ℕ) → follows bytes x behind ≡ Err (misread_at why bytes))
      → {r s : Reader} {a b : SeenSource} → Part first (Ok x) r s a b → Part whole (Err (Bad r.place why)) r s a b
  part-refused x why on {r} {b = b} p =
      let one = p.is in
      record {
        called = called-as (λ h. absurd cc) p.called;
        is = λ known. record {
          within = 0;
          misread = record {
            left = length (r.ahead ++ (p.called.taken ++ told b.left));
            is = rw (is (r.ahead ++ (p.called.taken ++ told b.left)), one.is (told b.left))
                (on (r.ahead ++ (p.called.taken ++ told b.left)) _);
            inside = omega arith;
            there = omega arith;
          };
          there = omega arith;
        };
      }

-- the next part is read
pub standing-more : {A B : Type 0} {whole rest : List ℕ → Views B} (first : List ℕ → Views A)
    (second : A → List ℕ → Views B) → ((bytes : List ℕ) → rest bytes ≡ (first bytes >>= λ x. second x.0 x.1)) → (x : A)
    → {r s t : Reader} {a b c : SeenSource} → Standing whole rest r s a b → Part first (Ok x) s t b c
    → Standing whole (second x) r t a c
standing-more {rest = rest} first second is x st p
    = standing-again st (part-standing first (λ _. second) rest is x (second x) (λ _ _. refl) p)

-- and it ends with a fault
pub standing-stops : {A B : Type 0} {whole rest : List ℕ → Views B} (first : List ℕ → Views A)
    (second : A → List ℕ → Views B) → ((bytes : List ℕ) → rest bytes ≡ (first bytes >>= λ x. second x.0 x.1))
    → (e : SnapshotFault)
    → {r s t : Reader} {a b c : SeenSource} → Standing whole rest r s a b → Part first (Err e) s t b c
    → Part whole (Err e) r t a c
standing-stops {rest = rest} first second is e st p
    = standing-then st (Err e) (part-stops first (λ _. second) rest is e p)
