-- Effects on the output alone and in steps: what was done beside a journal and a link that tell nothing was done beside
-- any.
use Rattle.std.proofs.Common.{◌≡◌, ℕ, List, [], ◌∷◌, ◌++◌, refl, sym, subst, arith}
use Rattle.std.specs.List.{AllByRecursion}
use Rattle.std.specs.Prelude.{IsSome}
use Rattle.gd_base.proofs.Lists.{Every-append, Every-prefix}
use Rattle.gd_effects.proofs.Crashing.{journals_stay}
use Rattle.gd_effects.proofs.RunEnds.{idle_journal, idle_link}
use Rattle.gd_effects.specs.Done.{Did, DidFront, DidHalfPrint}
use Rattle.gd_effects.specs.Effects.{Effect, Print, Work, gestures, journal_after, tried}
use Rattle.gd_effects.specs.Endings.{Causes, DidRead, EndsAs, IfUnopened, Leaves}
use Rattle.gd_effects.specs.Outside.{Outside, IsTold, outside}
use Rattle.gd_outside.proofs.ToldLemmas.{grows_nothing}
use Rattle.gd_outside.specs.Seen.{SeenSource, SeenSink, SeenJournal, SeenLink, Tried}
use Rattle.gd_outside.specs.Told.{told, Grows}
use Rattle.gd_outside.specs.declared.status.Status.{Status}
use Rattle.gd_outside.specs.declared.status.Status.TheVariants.{Done, Usage, BadLog, ReadFault, WriteFault}
use Rattle.gd_outside.specs.declared.status.Status.TheVariants.{JournalFault, LinkFault, NoMemory, LineLimit}
use Rattle.gd_outside.specs.declared.status.Status.TheVariants.{OtherJournal, BadView}

-- a line that is printed, or steps
abbrev pub IsShown : Effect → Type 0
IsShown (Print bytes) = Unit {0}
IsShown (Work n) = Unit {0}
IsShown other = ⊥

abbrev pub AreShown : List Effect → Type 0
AreShown xs = AllByRecursion IsShown xs

shown-journal : (contents : List ℕ) (xs : List Effect) → AreShown xs → journal_after contents xs ≡ contents
shown-journal contents [] h = refl
shown-journal contents (Print bytes ∷ xs) h = shown-journal contents xs h.1
shown-journal contents (Work n ∷ xs) h = shown-journal contents xs h.1
shown-journal contents (other ∷ xs) h = absurd h.0

shown-gestures : (xs : List Effect) → AreShown xs → gestures xs ≡ []
shown-gestures [] h = refl
shown-gestures (Print bytes ∷ xs) h = shown-gestures xs h.1
shown-gestures (Work n ∷ xs) h = shown-gestures xs h.1
shown-gestures (other ∷ xs) h = absurd h.0

shown-tried : (xs : List Effect) → AreShown xs → tried xs ≡ []
shown-tried [] h = refl
shown-tried (Print bytes ∷ xs) h = shown-tried xs h.1
shown-tried (Work n ∷ xs) h = shown-tried xs h.1
shown-tried (other ∷ xs) h = absurd h.0

module _ (was_input input : SeenSource) (old new : SeenSink) (before after : ℕ) where
  -- beside those that tell nothing
  abbrev idle_before : Outside
  idle_before = outside was_input old idle_journal idle_link before

  abbrev idle_after : Outside
  idle_after = outside input new idle_journal idle_link after

  module _ (journal : SeenJournal) (link : SeenLink) where
    -- beside any
    abbrev any_before : Outside
    any_before = outside was_input old journal link before

    abbrev any_after : Outside
    any_after = outside input new journal link after

    did_beside : (xs : List Effect) → AreShown xs → Did idle_before xs idle_after → Did any_before xs any_after
    did_beside xs shown h = record {
      output = h.output;
      journal = journals_stay journal xs (sym (shown-journal (told journal.contents) xs shown))
          (sym (shown-gestures xs shown));
      tried = subst (λ (frames : List Tried). Grows link.tried frames link.tried) (sym (shown-tried xs shown))
          (grows_nothing link.tried);
      steps = h.steps;
    }

    front_beside : (xs : List Effect) → AreShown xs → DidFront idle_before xs idle_after
        → DidFront any_before xs any_after
    front_beside xs shown h = record {
      front = h.front;
      back = h.back;
      split = h.split;
      did = did_beside h.front (Every-prefix IsShown h.front h.back (subst AreShown h.split shown)) h.did;
    }

    half_beside : (xs : List Effect) → AreShown xs → DidHalfPrint idle_before xs idle_after
        → DidHalfPrint any_before xs any_after
    half_beside xs shown h =
        let front = Every-prefix IsShown h.front (Print (h.half ++ h.rest) ∷ h.back) (subst AreShown h.split shown) in
        record {
          front = h.front;
          half = h.half;
          rest = h.rest;
          back = h.back;
          split = h.split;
          did = did_beside (h.front ++ Print h.half ∷ [])
              (Every-append IsShown h.front (Print h.half ∷ []) front (tt, tt)) h.did;
        }

    module _ (xs : List Effect) (cut : List ℕ → List Effect) (shown : AreShown xs)
        (shown_cut : (taken : List ℕ) → AreShown (cut taken)) (whole : Status) where
      read_beside : DidRead idle_before cut idle_after → DidRead any_before cut any_after
      read_beside h = record
          { taken = h.taken; handed = h.handed; did = did_beside (cut h.taken) (shown_cut h.taken) h.did }

      leaves_beside : (s : Status) → Causes s idle_before idle_after → Leaves xs cut whole s idle_before idle_after
          → Leaves xs cut whole s any_before any_after
      leaves_beside NoMemory c h = front_beside xs shown h
      leaves_beside ReadFault c h = (front_beside xs shown h.0, read_beside h.1)
      leaves_beside WriteFault c h = half_beside xs shown h
      leaves_beside JournalFault c h = absurd (omega (arith, c))
      leaves_beside LinkFault c h = tt
      leaves_beside Done c h = (did_beside xs shown h.0, h.1)
      leaves_beside Usage c h = (did_beside xs shown h.0, h.1)
      leaves_beside BadLog c h = (did_beside xs shown h.0, h.1)
      leaves_beside LineLimit c h = (did_beside xs shown h.0, h.1)
      leaves_beside OtherJournal c h = (did_beside xs shown h.0, h.1)
      leaves_beside BadView c h = (did_beside xs shown h.0, h.1)

      causes_beside : (s : Status) → Causes s idle_before idle_after → Causes s any_before any_after
      causes_beside ReadFault c = c
      causes_beside WriteFault c = c
      causes_beside JournalFault c = absurd (omega (arith, c))
      causes_beside LinkFault c = absurd (omega (arith, c))
      causes_beside other c = tt

      opened_beside : (s : Status) → Causes s idle_before idle_after → IfUnopened s any_before any_after
      opened_beside LinkFault c = absurd (omega (arith, c))
      opened_beside other c = tt

      pub ends_beside : (s : Status) → EndsAs (IsTold idle_after) xs cut whole s idle_before idle_after
          → EndsAs (IsSome input.left) xs cut whole s any_before any_after
      ends_beside s h = record {
        counts = record { input = h.counts.input; output = h.counts.output; journal = omega arith; link = omega arith };
        cause = causes_beside s h.cause;
        unopened = opened_beside s h.cause;
        was = record { input = h.was.input; entries = λ t. t };
        leaves = λ t. leaves_beside s h.cause (h.leaves (record { input = t; entries = refl }));
      }
