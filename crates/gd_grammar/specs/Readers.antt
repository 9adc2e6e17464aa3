-- Readings one behind the other as steps, and readings by a tag.
use Rattle.std.specs.Prelude.{ℕ, List, [], ◌∷◌, Err, ◌==◌, if◌then◌else◌}
use Rattle.gd_base.specs.declared.fault.FieldFault.{FieldFault}
use Rattle.gd_base.specs.declared.fault.FieldWhy.TheVariants.{Field}
use Rattle.gd_grammar.specs.Reading.{Reader, fault_at, then_at, pure}
use Rattle.gd_grammar.specs.Fields.{byte_at, byte_within}

infixl 10 ◌>>=◌
abbrev pub ◌>>=◌ : {A B : Type 0} → Reader A → (A → Reader B) → Reader B
r >>= f = then_at r f

-- the value that is read, in what holds it
abbrev pub into : {A B : Type 0} → (A → B) → Reader A → Reader B
into f r = then_at r (λ value. pure (f value))

-- the fields of the row with that tag, or the fault where no row has it
unfoldable pub picked : {A : Type 0} → List (ℕ × Reader A) → ℕ → FieldFault → Reader A
picked [] tag fault rest = Err fault
picked (row ∷ rows) tag fault rest = if tag == row.0 then row.1 rest else picked rows tag fault rest

-- a tag, and the fields by the tag, of which there is a row each
unfoldable pub by_tag : {A : Type 0} → List (ℕ × Reader A) → Reader A
by_tag rows bytes = then_at byte_at (λ tag. picked rows tag (fault_at Field bytes)) bytes

-- the same, where a tag is at most so great
unfoldable pub by_tag_within : {A : Type 0} → ℕ → List (ℕ × Reader A) → Reader A
by_tag_within most rows bytes = then_at (byte_within most) (λ tag. picked rows tag (fault_at Field bytes)) bytes

-- names all of these at once where a proof looks into readings
unfoldable pub steps : Unit {0}
unfolding then_at pure picked by_tag by_tag_within
steps = tt
