-- How `clap` walks over plain words: each is a value, of the option that waits or of a positional.
use Rattle.std.proofs.Common.{◌≡◌, ◌∙◌, ℕ, false, refl, ap, ap₂, List, [], ◌∷◌, ne_eqb, eqb, is_some, Some, None}
use Rattle.std.specs.List.{fold}
use Rattle.clap.specs.Words.{Kinds, Row, Rule, Text}
use Rattle.clap.specs.Kinds.{or_else}
use Rattle.clap.specs.Walk.{Held, Step, Waiting, Walk, after_step, finished, idle, option, plain_word, positional}
use Rattle.clap.specs.Walk.{settled, walked, word_met}
use Rattle.clap.specs.Simple.{App, Shape, built, entered}
use Rattle.clap.specs.Faults.{check_fault, defaults_fault, entered_fault, settle_fault, step_fault, turn_fault}
use Rattle.clap.specs.Faults.{walk_fault, word_fault}
use Rattle.clap.specs.declared.parser.matches.ValueSource.TheVariants.{CommandLine}
use Rattle.clap.specs.declared.builder.value_parser.Reading.TheVariants as reading
use Rattle.gd_commands.specs.Plain.{IsPlainWord}

-- between two words, where nothing but values and options came before
abbrev pub at : Held → Waiting → ℕ → Walk
at h waiting position = record { held = h; waiting = waiting; position = position; is_trailing = false; stopped = None }

-- the arguments before, and one that is being read
abbrev pub holding : List Row → Text → List Text → Held
holding rows id values = record { rows = rows; pending = Some (id, values); skip = 0 }

-- an argument that was read
abbrev pub row : Text → List Text → Row
row id values = record
    { id = id; values = values; count = None; source = Some CommandLine; reading = reading.AsWritten }

-- ---- one plain word

plain_met : (c : List Rule) (waiting : Waiting) (position : ℕ) (word : Text) (h : Held) → IsPlainWord word
    → word_met c [] false waiting position word h ≡ plain_word c waiting word h
plain_met c waiting position [] h plain = absurd plain
plain_met c waiting position (x ∷ xs) h plain =
    let e : eqb x 45 ≡ false = ne_eqb x 45 plain in
    elim waiting as (λ v. word_met c [] false v position (x ∷ xs) h ≡ plain_word c v (x ∷ xs) h) [
      | idle ↦ rw (e, e) refl
      | option id ↦ rw (e, e) refl
      | positional ↦ rw (e, e) refl
    ]

plain_passes : (s : Shape) (waiting : Waiting) (word : Text) (h : Held) → IsPlainWord word
    → word_fault s [] false waiting word h ≡ []
plain_passes s waiting [] h plain = absurd plain
plain_passes s waiting (x ∷ xs) h plain =
    let e : eqb x 45 ≡ false = ne_eqb x 45 plain in
    elim waiting as (λ v. word_fault s [] false v (x ∷ xs) h ≡ []) [
      | idle ↦ rw (e, e) refl
      | option id ↦ rw (e, e) refl
      | positional ↦ rw (e, e) refl
    ]

walked_plain : (c : List Rule) (h : Held) (waiting : Waiting) (position : ℕ) (word : Text) → IsPlainWord word
    → walked c [] (at h waiting position) word
    ≡ after_step c word (at h waiting position) (plain_word c waiting word h).0 (plain_word c waiting word h).1
unfolding walked
walked_plain c h waiting position word plain =
    ap (λ (met : Held × Step). after_step c word (at h waiting position) met.0 met.1)
    (plain_met c waiting position word h plain)

turn_plain : (s : Shape) (h : Held) (waiting : Waiting) (position : ℕ) (word : Text) → IsPlainWord word
    → turn_fault s [] (at h waiting position) word
    ≡ step_fault s position (plain_word s.rules waiting word h).0 (plain_word s.rules waiting word h).1
turn_plain s h waiting position word plain =
    ap₂ (λ (k : Kinds) (met : Held × Step). or_else k (step_fault s position met.0 met.1))
    (plain_passes s waiting word h plain)
    (plain_met s.rules waiting position word h plain)

-- ---- walks

-- one word passes, from one place of the walk to the next
abbrev pub Turns : Shape → Walk → Text → Walk → Type 0
Turns s w word mid = (turn_fault s [] w word ≡ []) × (walked s.rules [] w word ≡ mid)

-- a plain word passes where the place that it goes to takes it
pub turns_plain : (s : Shape) (h : Held) (waiting : Waiting) (position : ℕ) (word : Text) (mid : Walk)
    → IsPlainWord word
    → step_fault s position (plain_word s.rules waiting word h).0 (plain_word s.rules waiting word h).1 ≡ []
    → after_step s.rules word (at h waiting position) (plain_word s.rules waiting word h).0
    (plain_word s.rules waiting word h).1 ≡ mid
    → Turns s (at h waiting position) word mid
turns_plain s h waiting position word mid plain passes ends =
    (turn_plain s h waiting position word plain ∙ passes, walked_plain s.rules h waiting position word plain ∙ ends)

-- the words pass, from one place of the walk to another
pub record Walks (s : Shape) (w : Walk) (words : List Text) (end : Walk) : Type 0 where
  pub passes : walk_fault s [] w words ≡ []
  pub ends : fold (walked s.rules []) w words ≡ end

pub walks_none : (s : Shape) (w : Walk) → Walks s w [] w
unfolding walk_fault
walks_none s w = record { passes = refl; ends = refl }

pub walks_on : (s : Shape) (w mid end : Walk) (word : Text) (rest : List Text) → Turns s w word mid
    → Walks s mid rest end → Walks s w (word ∷ rest) end
unfolding walk_fault
walks_on s w mid end word rest (turn, step) h = record {
  passes = ap₂ or_else turn (ap (λ v. walk_fault s [] v rest) step ∙ h.passes);
  ends = ap (λ v. fold (walked s.rules []) v rest) step ∙ h.ends;
}

-- ---- the end

-- what a command without subcommands refuses, by its walk
abbrev pub refused_by : App → Kinds → Walk → Kinds
refused_by app passes end =
    let a = built app in
    or_else passes (or_else (entered_fault a end.stopped)
    (or_else (settle_fault a.top.rules a.top.args_override_self end.held)
    (or_else (defaults_fault (settled a.top.rules end.held).rows a.top.rules)
    (check_fault a.top (finished a.top.rules end.held) (is_some (entered a end.stopped))))))

abbrev pub rows_at : App → Walk → List Row
rows_at app end = finished (built app).top.rules end.held
