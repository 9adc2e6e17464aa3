-- Readings one behind the other, step by step, and readings by a tag, row by row.
use Rattle.std.proofs.Common.{◌≡◌, ℕ, ◌+◌, true, List, [], ◌∷◌, get_or, Ok, refl, arith}
use Rattle.std.specs.List.{AllByRecursion}
use Rattle.std.specs.Prelude.{nat_le, ◌==◌}
use Rattle.gd_base.specs.declared.fault.FieldFault.{FieldFault}
use Rattle.gd_base.specs.declared.fault.FieldWhy.TheVariants.{Field}
use Rattle.gd_grammar.specs.Reading.{Reader, fault_at, then_at, pure}
use Rattle.gd_grammar.specs.Readers.{into, picked, by_tag, by_tag_within}
use Rattle.gd_grammar.specs.Fields.{byte_at, byte_within}
use Rattle.gd_grammar.specs.FieldBytes.{AreBytes}
use Rattle.gd_grammar.specs.Steady.{Steady}
use Rattle.gd_grammar.specs.Exact.{Took, Exact, Runs}
use Rattle.gd_grammar.proofs.Steady.{Follows, Steady-then, Steady-weaken, Steady-done, behind, fault_there, either}
use Rattle.gd_grammar.proofs.Exact.{joined, spelt, step, taking, done, on_tag}
use Rattle.gd_grammar.proofs.SteadyFields.{field_ne, Steady-byte, Steady-byte-within}
use Rattle.gd_grammar.proofs.ExactFields.{exact_byte, exact_byte_within, tag_is, no_tag}

-- a fact of one row, and those of the rows behind it
infixr 5 ◌&◌
pub ◌&◌ : {A B : Type 0} → A → B → A × B
a & b = (a, b)

-- a field was read, and what follows it
pub then-read : {A B : Type 0} (r : Reader A) (f : A → Reader B) {bytes rest : List ℕ} {a : A} {z : B × List ℕ}
    → r bytes ≡ Ok (a, rest) → f a rest ≡ Ok z → then_at r f bytes ≡ Ok z
unfolding then_at
then-read r f first second = rw first second

-- nothing more was read
pub pure-read : {A : Type 0} (value : A) (bytes : List ℕ) → pure value bytes ≡ Ok (value, bytes)
unfolding pure
pure-read value bytes = refl

-- ---- read alike whatever follows

pub Steady-pure : {A : Type 0} (value : A) → Steady 0 (pure value)
unfolding pure
Steady-pure value = Steady-done value

pub Steady-next : {A B : Type 0} {n : ℕ} (m : ℕ) {r : Reader A} {f : A → Reader B} → Steady m r
    → ((a : A) → Steady n (f a)) → Steady (m + n) (then_at r f)
unfolding then_at
Steady-next {n = n} m {r = r} {f = f} first second
    = Steady-then m n r (λ a _ rest. f a rest) first (λ a. behind n (f a) (second a))

pub Steady-into : {A B : Type 0} (m : ℕ) (f : A → B) {r : Reader A} → Steady m r → Steady m (into f r)
Steady-into m f {r = r} s
    = Steady-weaken (m + 0) m (into f r) (omega arith) (Steady-next m s (λ value. Steady-pure (f value)))

-- the fields of each row take at most so many bytes
abbrev pub SteadyRow : {A : Type 0} → ℕ → ℕ × Reader A → Type 0
SteadyRow most row = Steady most row.1

abbrev pub AllSteady : {A : Type 0} → ℕ → List (ℕ × Reader A) → Type 0
AllSteady most rows = AllByRecursion (SteadyRow most) rows

picked-follows : {A : Type 0} (most : ℕ) (rows : List (ℕ × Reader A)) → AllSteady most rows → (tag : ℕ)
    → Follows most (λ bytes rest. picked rows tag (fault_at Field bytes) rest)
unfolding picked
picked-follows most [] all tag = fault_there most Field field_ne
picked-follows most (row ∷ rows) all tag
    = either (tag == row.0) (λ _. behind most row.1 all.0) (λ _. picked-follows most rows all.1 tag)

pub Steady-tags : {A : Type 0} (most : ℕ) (rows : List (ℕ × Reader A)) → AllSteady most rows
    → Steady (1 + most) (by_tag rows)
unfolding by_tag then_at
Steady-tags most rows all
    = Steady-then 1 most byte_at (λ tag bytes rest. picked rows tag (fault_at Field bytes) rest) Steady-byte
    (picked-follows most rows all)

pub Steady-tags-within : {A : Type 0} (last most : ℕ) (rows : List (ℕ × Reader A)) → AllSteady most rows
    → Steady (1 + most) (by_tag_within last rows)
unfolding by_tag_within then_at
Steady-tags-within last most rows all
    = Steady-then 1 most (byte_within last) (λ tag bytes rest. picked rows tag (fault_at Field bytes) rest)
    (Steady-byte-within last) (picked-follows most rows all)

-- ---- spelled

-- what a row reads behind its tag is sound, and was spelled with the tag
abbrev pub TookAs : {A : Type 0} → (A → Type 0) → (A → List ℕ) → ℕ × Reader A → Type 0
TookAs {A} Sound spell row = (whole bytes : List ℕ) (z : A × List ℕ) → AreBytes bytes → Runs whole (row.0 ∷ []) bytes
    → row.1 bytes ≡ Ok z → Took Sound spell whole z

-- a tag that has no fields
pub took-pure : {A : Type 0} {Sound : A → Type 0} {spell : A → List ℕ} (value : A) (tag : ℕ) → Sound value
    → tag ∷ [] ≡ spell value → TookAs Sound spell (tag, pure value)
unfolding pure
took-pure value tag sound same whole bytes z are text e
    = done (value, bytes) z e (record { sound = sound; text = spelt text same })

-- a field behind a tag, in what holds it
pub took-into : {A B : Type 0} {r : Reader A} {S : A → Type 0} {sp : A → List ℕ} {Sound : B → Type 0}
    {spell : B → List ℕ} (f : A → B) (tag : ℕ) → Exact r S sp
    → ((a : A) → S a → Sound (f a)) → ((a : A) → tag ∷ sp a ≡ spell (f a)) → TookAs Sound spell (tag, into f r)
unfolding then_at pure
took-into f tag exact sound same whole bytes z are text e =
    taking exact bytes are _ z e (λ a.
    done _ z a.on (record { sound = sound a.value a.sound; text = spelt (joined text a.text) (same a.value) }))

abbrev pub AllTook : {A : Type 0} → (A → Type 0) → (A → List ℕ) → List (ℕ × Reader A) → Type 0
AllTook Sound spell rows = AllByRecursion (TookAs Sound spell) rows

picked-took : {A : Type 0} {Sound : A → Type 0} {spell : A → List ℕ} (rows : List (ℕ × Reader A))
    → AllTook Sound spell rows → (tag : ℕ) (fault : FieldFault) (whole rest : List ℕ) (z : A × List ℕ)
    → AreBytes rest → Runs whole (tag ∷ []) rest → picked rows tag fault rest ≡ Ok z → Took Sound spell whole z
unfolding picked
picked-took [] all tag fault whole rest z are text e = no_tag _ z e
picked-took (row ∷ rows) all tag fault whole rest z are text e =
    on_tag tag row.0 _ _ z e (λ is h. all.0 whole rest z are (tag_is tag row.0 text is) h)
    (λ h. picked-took rows all.1 tag fault whole rest z are text h)

-- what is read by a tag was spelled
pub took-tags : {A : Type 0} {Sound : A → Type 0} {spell : A → List ℕ} (rows : List (ℕ × Reader A))
    → AllTook Sound spell rows → (bytes : List ℕ) (z : A × List ℕ) → AreBytes bytes
    → by_tag rows bytes ≡ Ok z → Took Sound spell bytes z
unfolding by_tag then_at
took-tags rows all bytes z are e =
    let tag = step exact_byte bytes are _ z e in
    picked-took rows all tag.value (fault_at Field bytes) bytes tag.rest z tag.left tag.text tag.on

-- and so is what is read by a tag that is at most so great, and so great is the first byte
pub took-tags-within : {A : Type 0} {Sound : A → Type 0} {spell : A → List ℕ} (last : ℕ) (rows : List (ℕ × Reader A))
    → AllTook Sound spell rows → (bytes : List ℕ) (z : A × List ℕ) → AreBytes bytes
    → by_tag_within last rows bytes ≡ Ok z → Took Sound spell bytes z × (nat_le (get_or bytes 0 0) last ≡ true)
unfolding by_tag_within then_at
took-tags-within last rows all bytes z are e =
    let tag = step (exact_byte_within last) bytes are _ z e in (
      picked-took rows all tag.value (fault_at Field bytes) bytes tag.rest z tag.left tag.text tag.on,
      rw tag.text.is
          tag.sound,
    )
