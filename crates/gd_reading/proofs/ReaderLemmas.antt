-- What a command that reads a log ends with, by what it read and what it printed.
use Rattle.std.proofs.Common.{◌≡◌, ℕ, ◌+◌, List, [], ◌++◌, sum, refl, sym, ap, ◌∙◌, ◌⊎◌, inl, inr}
use Rattle.std.specs.Prelude.{Result, Ok, Err, ⊤, map}
use Rattle.std.proofs.lemmas.List.{append-nil}
use Rattle.gd_outside.specs.Seen.{SeenSink}
use Rattle.gd_outside.specs.declared.end.End.{End}
use Rattle.gd_outside.specs.declared.end.End.TheVariants.{NoMemory, ReadFault, WriteFault, JournalFault}
use Rattle.gd_outside.specs.declared.status.Status.{Status}
use Rattle.gd_outside.specs.declared.status.Status.TheVariants as status
use Rattle.gd_effects.specs.Effects.{Effect, Work}
use Rattle.gd_effects.specs.Prints.{PrintsInSteps}
use Rattle.gd_effects.specs.Endings.{IsUncut, status_of}
use Rattle.gd_effects.proofs.Doing.{does_more, does_as, does_some_works}
use Rattle.gd_effects.proofs.RunEnds.{no_journal, status_unread, status_memory}
use Rattle.gd_arriving.specs.Arriving.{PaidFront}
use Rattle.gd_reference.specs.SlowRun.{IsReaderEnd}

-- a call on the output and in steps ends neither by a read nor by the journal
pub printed_end : (r : Result ⊤ End) (whole : Status) {old new : SeenSink} {before after : ℕ} {xs : List Effect}
    → IsReaderEnd whole
    → PrintsInSteps old before xs r new after → IsReaderEnd (status_of r whole)
printed_end (Ok x) whole w p = w
printed_end (Err NoMemory) whole w p = tt
printed_end (Err ReadFault) whole w p = tt
printed_end (Err WriteFault) whole w p = tt
printed_end (Err JournalFault) whole w p = absurd (no_journal (Err JournalFault) p refl)

-- and nothing was printed where it ends so, or since memory ran out
pub silent_by : {P : Type 0} (s : Status) (r : Result ⊤ End) (whole : Status) {old new : SeenSink} {before after : ℕ}
    {xs : List Effect} → s ≡ status_of r whole → IsUncut whole
    → PrintsInSteps old before xs r new after → (r ≡ Err NoMemory → P) → (s ≡ status.ReadFault) ⊎ (s ≡ status.NoMemory)
    → P
silent_by s r whole is u p f (inl e) = absurd (status_unread r whole u p (sym is ∙ e))
silent_by s r whole is u p f (inr e) = f (status_memory r whole u (sym is ∙ e))

-- memory ran out while events arrived, and what was to come was not done
pub some_arrived : (ns : List ℕ) (output : SeenSink) {before after : ℕ} → PaidFront ns before after
    → (later : List Effect)
    → PrintsInSteps {T = Unit {0}} output before (map Work ns ++ later) (Err NoMemory) output after
some_arrived ns output {before} {after} p later input journal link =
    does_more later (does_as (ap (map Work) p.split)
    (does_some_works p.front p.back input output journal link before after p.paid))

-- all events arrived, and then memory ran out
pub all_arrived : (ns : List ℕ) (output : SeenSink) {before after : ℕ} → after ≡ before + sum ns → (later : List Effect)
    → PrintsInSteps {T = Unit {0}} output before (map Work ns ++ later) (Err NoMemory) output after
all_arrived ns output paid later
    = some_arrived ns output (record { front = ns; back = []; split = sym (append-nil ns); paid = paid }) later
