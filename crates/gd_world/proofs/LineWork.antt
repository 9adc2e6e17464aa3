-- What a line of a rehearsal owes: the steps of what comes of it, and then what is said of it.
use Rattle.std.proofs.Common.{◌≡◌, ℕ, ◌+◌, List, [], ◌∷◌, ◌++◌, map, refl, sym, ◌∙◌, ap, ap₂, subst}
use Rattle.std.specs.List.{filter}
use Rattle.std.specs.Prelude.{Result, Ok, Err}
use Rattle.gd_answers.specs.Paying.{PaysFront}
use Rattle.gd_base.specs.declared.refusal.LineFault.{LineFault}
use Rattle.gd_dialogue.proofs.Carrying.{carries_prints, on_ok_map}
use Rattle.gd_dialogue.proofs.Keeping.{keeps_same}
use Rattle.gd_dialogue.proofs.Links.{open_same}
use Rattle.gd_dialogue.specs.Answering.{for_line}
use Rattle.gd_dialogue.specs.Owing.{At, Carries, at}
use Rattle.gd_effects.proofs.Doing.{cost-works, does_as, does_more, does_some_works, does_then, does_works, on_ok}
use Rattle.gd_effects.specs.Done.{Does}
use Rattle.gd_effects.specs.Effects.{Effect, Work, cost}
use Rattle.gd_effects.specs.Outside.{outside}
use Rattle.gd_effects.specs.Prints.{Prints}
use Rattle.gd_lines.specs.InRange.{IsScriptLine}
use Rattle.gd_lines.specs.Refusals.{line_refusal}
use Rattle.gd_lines.specs.declared.command.ScriptLine.{ScriptLine}
use Rattle.gd_lines.specs.declared.command.ScriptLine.TheVariants as script
use Rattle.gd_lines.specs.declared.reply.Reply.{Reply}
use Rattle.gd_lines.specs.declared.reply.Reply.TheVariants as reply
use Rattle.gd_outside.proofs.ToldLemmas.{grows_nothing}
use Rattle.gd_outside.specs.Seen.{SeenSource, SeenSink, SeenJournal, SeenLink}
use Rattle.gd_outside.specs.declared.end.End.{End}
use Rattle.gd_outside.specs.declared.end.End.TheVariants as early
use Rattle.gd_reference.specs.Said.{all_said, says}
use Rattle.gd_reference.specs.World.{World}
use Rattle.gd_world.specs.Calls.{Answers, IsScript}
use Rattle.gd_world.specs.Standing.{StandsFor, WorldValue}
use Rattle.gd_world.specs.declared.fault.WorldFault.{WorldFault}
use Rattle.gd_world.specs.declared.fault.WorldFault.TheVariants.{NoSite, NoMail, NoMemory}
use Rattle.gd_worlds.specs.Rehearsal.{ReadScript, after_script, is_work, of_site, rehearsal_manner, script_replies}
use Rattle.gd_worlds.specs.Rehearsal.{script_work}

-- what a site is asked for by a line that was read is in its ranges
pub is_script : (line : ScriptLine) → IsScriptLine line → IsScript line
is_script (script.At site asked) h = h.1
is_script other h = tt

-- ---- steps

-- the steps among these effects
works_of : List Effect → List ℕ
works_of [] = []
works_of (Work n ∷ xs) = n ∷ works_of xs
works_of (other ∷ xs) = works_of xs

works_are : (xs : List Effect) → filter is_work xs ≡ map Work (works_of xs)
unfolding works_of
works_are [] = refl
works_are (Work n ∷ xs) = ap (λ (l : List Effect). Work n ∷ l) (works_are xs)
works_are (other ∷ xs) = works_are xs

-- a front of steps is one of steps
record IsFront (ns : List ℕ) (front : List Effect) : Type 0 where
  first : List ℕ
  rest : List ℕ
  split : ns ≡ first ++ rest
  is : front ≡ map Work first

front_of : (ns : List ℕ) (front back : List Effect) → map Work ns ≡ front ++ back → IsFront ns front
front_of ns [] back e = record { first = []; rest = ns; split = refl; is = refl }
front_of [] (x ∷ front) back e = absurd cc
front_of (n ∷ ns) (x ∷ front) back e =
    let head : x ≡ Work n = cc in
    let tail : map Work ns ≡ front ++ back = cc in
    let f = front_of ns front back tail in
    record {
      first = n ∷ f.first;
      rest = f.rest;
      split = ap (λ (l : List ℕ). n ∷ l) f.split;
      is = ap₂ (λ (y : Effect) (l : List Effect). y ∷ l) head f.is;
    }

module _ (w : World) (line : ReadScript) (input : SeenSource) (output : SeenSink) (journal : SeenJournal)
    (link : SeenLink) {before after : ℕ} where
  -- all steps of a line
  works_done : {T : Type 0} (v : T) → after ≡ before + cost (script_work w line)
      → Does (Ok v) (outside input output journal link before) (script_work w line)
      (outside input output journal link after)
  works_done v paid =
      let is = works_are (of_site w line) in
      does_as is (does_works v (works_of (of_site w line)) input output journal link before after
      (paid ∙ ap (λ n. before + n) (ap cost is ∙ cost-works (works_of (of_site w line)))))

  -- the first of them, and then memory ran out
  works_cut : {T : Type 0} → PaysFront before (script_work w line) after
      → Does {T = T} (Err early.NoMemory) (outside input output journal link before) (script_work w line)
      (outside input output journal link after)
  works_cut pays =
      let is = works_are (of_site w line) in
      let f = front_of (works_of (of_site w line)) pays.front pays.back (sym is ∙ pays.split) in
      does_as (is ∙ ap (map Work) f.split)
      (does_some_works f.first f.rest input output journal link before after
      (pays.paid ∙ ap (λ n. before + n) (ap cost f.is ∙ cost-works f.first)))

-- ---- lines

-- that a world in memory stands for this one, whatever the journal is
abbrev Meets : World → WorldValue → SeenJournal → Type 0
Meets w world journal = StandsFor w world

pub carries_read : {r : Result (Unit {0}) End} {a b : At WorldValue} (line given : ReadScript) → line ≡ given
    → Carries Meets (for_line rehearsal_manner given) r a b
    → Carries Meets (for_line rehearsal_manner line) r a b
carries_read {r = r} {a} {b} line given is h
    = subst (λ (z : ReadScript). Carries Meets (for_line rehearsal_manner z) r a b) (sym is) h

pays : (fault : WorldFault) (w : World) (line : ScriptLine) (before after : ℕ) (new : WorldValue)
    → Answers w line (Err fault) before new after → PaysFront before (script_work w (Ok line)) after
pays NoMemory w line before after new h = h
pays NoSite w line before after new h = absurd h
pays NoMail w line before after new h = absurd h

module _ (line : ScriptLine) {old new : WorldValue} {output : SeenSink} (journal : SeenJournal) (link : SeenLink)
    {before after : ℕ} where
  -- a line that was answered, and what is said of it is printed
  pub carries_answer : (r : Result (Unit {0}) End) {replies : List Reply} {output' : SeenSink}
      → ((w : World) → StandsFor w old → Answers w line (Ok replies) before new after)
      → Prints output (all_said replies) r output'
      → Carries Meets (for_line rehearsal_manner (Ok line)) r (at old output journal link before)
      (at new output' journal link after)
  carries_answer r answered prints = record {
    does = λ w m input.
        let a = answered w m in
        does_then (works_done w (Ok line) input output journal link {T = Unit {0}} tt a.2)
        (does_as (ap all_said (sym a.0)) (prints input journal link after));
    goes = on_ok_map r (λ t w m. record
        { reached = after_script w (Ok line); meets_it = (answered w m).1; is = λ told. (refl, refl) })
        (on_ok {P = Unit {0}} r tt);
    keeps = λ w m. keeps_same journal;
    name = grows_nothing journal.name;
    opened = open_same link;
  }

  -- memory ran out
  pub carries_cut : (fault : WorldFault) → ((w : World) → StandsFor w old → Answers w line (Err fault) before new after)
      → Carries Meets {T = Unit {0}} (for_line rehearsal_manner (Ok line)) (Err early.NoMemory)
      (at old output journal link before) (at new output journal link after)
  carries_cut fault answered = record {
    does = λ w m input. does_more (all_said (script_replies w (Ok line)))
        (works_cut w (Ok line) input output journal link (pays fault w line before after new (answered w m)));
    goes = tt;
    keeps = λ w m. keeps_same journal;
    name = grows_nothing journal.name;
    opened = open_same link;
  }

-- a line that is none
pub carries_fault : (fault : LineFault) (r : Result (Unit {0}) End) (world : WorldValue) {output output' : SeenSink}
    (journal : SeenJournal) (link : SeenLink) (steps : ℕ)
    → Prints output (says (reply.Refused (line_refusal fault)) ∷ []) r output'
    → Carries Meets (for_line rehearsal_manner (Err fault)) r (at world output journal link steps)
    (at world output' journal link steps)
carries_fault fault r world journal link steps prints
    = carries_prints r (λ w. says (reply.Refused (line_refusal fault)) ∷ []) world journal link steps (λ w m. prints)
