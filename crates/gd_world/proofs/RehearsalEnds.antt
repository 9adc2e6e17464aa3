-- How a rehearsal ends.
use Rattle.std.proofs.Common.{ℕ, Bool, true, false, List, [], ◌∷◌, cond}
use Rattle.std.specs.List.{filter}
use Rattle.std.specs.Prelude.{Result, Ok, Err, IfOk, IsSome}
use Rattle.gd_base.proofs.Lists.{Every-append}
use Rattle.gd_dialogue.specs.Answering.{IsDialogueEnd, cut_effects, input_effects, input_end}
use Rattle.gd_effects.proofs.NodeEnds.{ends_as}
use Rattle.gd_effects.proofs.RunEnds.{idle_journal, idle_link}
use Rattle.gd_effects.specs.Effects.{Effect, Work}
use Rattle.gd_effects.specs.Endings.{EndsAs, IsUncut}
use Rattle.gd_effects.specs.Outside.{outside}
use Rattle.gd_effects.specs.Runs.{RunsAs, ended}
use Rattle.gd_lines.specs.ScriptLines.{read_script}
use Rattle.gd_lines.specs.declared.reply.Reply.{Reply}
use Rattle.gd_outside.specs.Seen.{Entry, SeenSource, SeenSink, SeenJournal, SeenLink}
use Rattle.gd_outside.specs.declared.end.End.{End}
use Rattle.gd_outside.specs.declared.status.Status.{Status}
use Rattle.gd_outside.specs.declared.status.Status.TheVariants.{Done, LineLimit}
use Rattle.gd_reference.specs.Dialogues.{answered}
use Rattle.gd_reference.specs.InputLines.{Over, Read, whole_lines}
use Rattle.gd_reference.specs.Said.{all_said}
use Rattle.gd_reference.specs.World.{World, start}
use Rattle.gd_world.proofs.OutputAlone.{AreShown, IsShown, ends_beside}
use Rattle.gd_worlds.specs.Rehearsal.{HeardScript, ReadScript, after_script, is_last, is_work, most_rehearsal_lines}
use Rattle.gd_worlds.specs.Rehearsal.{of_script, of_site, rehearsal_effects, rehearsal_end, rehearsal_lines}
use Rattle.gd_worlds.specs.Rehearsal.{rehearsal_manner, script_replies, script_work}

-- ---- a rehearsal prints, takes steps, and does nothing else

shown_work : (xs : List Effect) → AreShown (filter is_work xs)
shown_work [] = tt
shown_work (Work n ∷ xs) = (tt, shown_work xs)
shown_work (other ∷ xs) = shown_work xs

shown_said : (replies : List Reply) → AreShown (all_said replies)
shown_said [] = tt
shown_said (r ∷ replies) = (tt, shown_said replies)

shown_script : (w : World) (line : ReadScript) → AreShown (of_script w line)
shown_script w line = Every-append IsShown (script_work w line) (all_said (script_replies w line))
    (shown_work (of_site w line)) (shown_said (script_replies w line))

shown_if : (last : Bool) (xs : List Effect) → AreShown xs → AreShown (cond last [] xs)
shown_if true xs h = tt
shown_if false xs h = h

shown_answered : (w : World) (entries : List Entry) (lines : List HeardScript)
    → AreShown (answered rehearsal_manner w entries lines)
unfolding answered
shown_answered w entries [] = tt
shown_answered w entries (Over ∷ lines) = (tt, tt)
shown_answered w entries (Read line ∷ lines) =
    let rest = answered rehearsal_manner (after_script w line) entries lines in
    Every-append IsShown (of_script w line) (cond (is_last line) [] rest) (shown_script w line)
    (shown_if (is_last line) rest (shown_answered (after_script w line) entries lines))

-- ---- its end

uncut : (s : Status) → IsDialogueEnd s → IsUncut s
uncut Done h = tt
uncut LineLimit h = tt
uncut other h = absurd h

if_uncut : (r : Result Status End) → IfOk r IsDialogueEnd → IfOk r IsUncut
if_uncut (Ok s) h = uncut s h
if_uncut (Err e) h = tt

module _ (was_input input : SeenSource) (old new : SeenSink) (before after : ℕ) where
  pub rehearsal_ends : (r : Result Status End) → IfOk r IsDialogueEnd
      → (sites : ℕ) (bytes : List ℕ) (journal : SeenJournal) (link : SeenLink)
      → RunsAs (input_effects rehearsal_manner read_script most_rehearsal_lines (start sites 1) [] bytes)
      (cut_effects rehearsal_manner read_script most_rehearsal_lines (start sites 1) [])
      (input_end rehearsal_manner read_script most_rehearsal_lines bytes) r
      (outside was_input old idle_journal idle_link before) (outside input new idle_journal idle_link after)
      → EndsAs (IsSome input.left) (rehearsal_effects sites (rehearsal_lines bytes))
      (λ taken. rehearsal_effects sites (rehearsal_lines (whole_lines taken)))
      (rehearsal_end (rehearsal_lines bytes)) (ended r)
      (outside was_input old journal link before) (outside input new journal link after)
  unfolding rehearsal_lines
  rehearsal_ends r kinds sites bytes journal link runs =
      ends_beside was_input input old new before after journal link _ _
      (shown_answered (start sites 1) [] (rehearsal_lines bytes))
      (λ taken. shown_answered (start sites 1) [] (rehearsal_lines (whole_lines taken))) _ (ended r)
      (ends_as _ _ r (if_uncut r kinds) runs)
