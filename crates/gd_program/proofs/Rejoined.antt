-- What a node keeps of its log, and what holds of one that couldn't read its journal.
use Rattle.std.proofs.Common.{◌≡◌, ℕ, List, ◌∷◌, ◌++◌, refl, sym, ap, subst, inl, inr}
use Rattle.std.specs.Prelude.{Option, Some, IsSome, length}
use Rattle.gd_effects.specs.Effects.{recorded}
use Rattle.gd_effects.specs.Endings.{IsUncut, Unread}
use Rattle.gd_effects.specs.Outside.{Outside}
use Rattle.gd_events.specs.Events.{Event}
use Rattle.gd_grammar.specs.Closing.{Closes}
use Rattle.gd_grammar.specs.Drawings.{drawings}
use Rattle.gd_node.specs.Configs.{ConfigValue}
use Rattle.gd_node.specs.Rejoining.{IsToldAll, KeepsFound, OnceFound, resumed_by}
use Rattle.gd_node.specs.Serving.{gone_on, header_of}
use Rattle.gd_asked.specs.declared.command.Command.{Command}
use Rattle.gd_asked.specs.declared.command.Command.TheVariants.{Rejoin}
use Rattle.gd_outside.specs.Seen.{Entry}
use Rattle.gd_outside.specs.Told.{told}
use Rattle.gd_outside.specs.declared.status.Status.{Status}
use Rattle.gd_outside.specs.declared.status.Status.TheVariants.{Done, Usage, BadLog, LineLimit, OtherJournal, BadView}
use Rattle.gd_protocol.proofs.NodeJournals.{held_of_answers, no_head_of_answers}
use Rattle.gd_reference.specs.NodeRun.{answers, node_lines, site_after}
use Rattle.gd_reference.specs.Rejoin.{Found, Events, rejoined_held}
use Rattle.gd_reference.specs.SlowSite.{SlowSite, resumed}
use Rattle.gd_program.proofs.Sentences.{did_whole}
use Rattle.gd_program.specs.Commands.{ClosesFound, IsUnread}

-- only a node that goes on from its journal can't read it
pub is_unread : (asked : Option Command) (s : Status) (a b : Outside) → IsUnread asked s a b → Unread s a b
is_unread (Some (Rejoin session site journal addresses)) s a b h = h
is_unread other s a b h = absurd h

-- what holds once a node has its log holds where nothing cut its run short
uncut_once : (s : Status) (old new : Outside) {P : Type 0} → IsUncut s → OnceFound s old new P → P
uncut_once Done old new u p = p
uncut_once Usage old new u p = p
uncut_once BadLog old new u p = p
uncut_once LineLimit old new u p = p
uncut_once OtherJournal old new u p = p
uncut_once BadView old new u p = p
uncut_once other old new u p = absurd u

-- what it holds then is what it found and recorded
held_found : (c : ConfigValue) (events : List Event) (entries : List Entry) (input : List ℕ)
    → (site_after (resumed_by c events) entries (node_lines input)).held
    ≡ events ++ recorded (gone_on c (resumed_by c events) entries input)
unfolding resumed
held_found c events entries input = held_of_answers (resumed_by c events) entries (node_lines input)

-- the log that was found has what was recorded besides
pub closes_found : (c : ConfigValue) (there : Found) (entries : List Entry) (input : List ℕ) (s : Status)
    (a b : Outside) → IsUncut s → IsToldAll b
    → OnceFound s a b (IsToldAll b → KeepsFound c there entries input s a b)
    → ClosesFound there (header_of c)
    (rejoined_held c.me (length c.addresses) c.session there entries (node_lines input)) b.journal
closes_found c (Events events) entries input s a b u t once = λ some.
    let k = uncut_once s a b u once t in
    let slow = resumed_by c events in
    let journal = (did_whole s k.ends t.told u).0.journal in
    let adds = journal.crash some (no_head_of_answers slow entries (node_lines input)) (header_of c) events
    (k.stands (journal.was some)) in
    subst (λ es. Closes drawings (header_of c) es (told b.journal.contents)) (sym (held_found c events entries input))
    adds.stands.contents
closes_found c other entries input s a b u t once = tt
