-- A conversation does what the state owes for a line where its member does.
use Rattle.std.proofs.Common.{◌≡◌, ℕ, true, false, List, [], refl, sym, ◌∙◌, ap, subst}
use Rattle.std.specs.Prelude.{Option, None, Some, Result, Ok, Err, OnOk}
use Rattle.gd_dialogue.proofs.Carrying.{carries_nothing, on_ok_map}
use Rattle.gd_dialogue.specs.Answering as answering
use Rattle.gd_dialogue.specs.Owing as owing
use Rattle.gd_dialogue.specs.Owing.{at, without_entries}
use Rattle.gd_effects.proofs.Doing.{does_as}
use Rattle.gd_lines.specs.InRange.{IsCommand}
use Rattle.gd_lines.specs.Lines.{read}
use Rattle.gd_lines.specs.declared.command.Command.{Command}
use Rattle.gd_lines.specs.declared.command.Command.TheVariants as command
use Rattle.gd_node.specs.Conversing.{AreAskedOf, MeetsState, ends_gesture, for_waiting, for_within, waits_behind}
use Rattle.gd_node.specs.Gesturing.{for_gesture}
use Rattle.gd_node.specs.Owing.{Carries, Node, NodeOwed, node}
use Rattle.gd_node.specs.declared.conversation.Conversation.{Conversation}
use Rattle.gd_outside.specs.Seen.{Entry, SeenSink, SeenJournal, SeenLink}
use Rattle.gd_outside.specs.Told.{told}
use Rattle.gd_outside.specs.declared.end.End.{End}
use Rattle.gd_protocol.proofs.NodeJournals.{ranged-waiting}
use Rattle.gd_reference.specs.NodeRun.{IsRead, NodeState, ReadLine, after_line_of, node_manner}
use Rattle.gd_reference.specs.SlowSite.{SlowSite}
use Rattle.gd_reference.specs.TakeBack.{Asked}

-- ---- what waits stays in its ranges

ranged_after : (slow : SlowSite) (waiting : Option (List Asked)) (entries : List Entry) (line : ReadLine) → IsRead line
    → AreAskedOf waiting
    → AreAskedOf (after_line_of slow waiting entries line).waiting
ranged_after slow None entries (Ok command.Begin) read are = tt
ranged_after slow None entries line read are = tt
ranged_after slow (Some asked) entries (Ok command.End) read are = tt
ranged_after slow (Some asked) entries line read are = ranged-waiting asked line read are

-- ---- the lines that wait

waits_after : (slow : SlowSite) (waiting : Option (List Asked)) (entries : List Entry) (line : ReadLine)
    → (after_line_of slow waiting entries line).waiting ≡ waits_behind waiting line
waits_after slow None entries (Ok command.Begin) = refl
waits_after slow None entries line = refl
waits_after slow (Some asked) entries (Ok command.End) = refl
waits_after slow (Some asked) entries line = refl

-- a line that ends a gesture owes what the gesture does, and any other nothing
within_end : (asked : List Asked) (line : ReadLine) → ends_gesture line ≡ true
    → for_within asked line ≡ for_gesture asked
within_end asked (Ok command.End) e = refl
within_end asked line e = cc

within_wait : (asked : List Asked) (line : ReadLine) → ends_gesture line ≡ false
    → for_within asked line ≡ without_entries (λ slow. []) (λ slow. slow)
within_wait asked (Ok command.End) e = cc
within_wait asked line e = refl

pub carries_end : (asked : List Asked) (line : ReadLine) → ends_gesture line ≡ true
    → {T : Type 0} (r : Result T End) {a b : Node} → Carries (for_gesture asked) r a b
    → Carries (for_within asked line) r a b
carries_end asked line is r {a} {b} h
    = subst (λ (owed : NodeOwed). Carries owed r a b) (sym (within_end asked line is)) h

pub carries_wait : (asked : List Asked) (line : ReadLine) → ends_gesture line ≡ false → {T : Type 0} (v : T) (a : Node)
    → Carries (for_within asked line) (Ok v) a a
carries_wait asked line is v a
    = subst (λ (owed : NodeOwed). Carries owed (Ok v) a a) (sym (within_wait asked line is)) (carries_nothing v a)

-- ---- the state

-- what was read is in its ranges
pub read_ranged : (bytes : List ℕ) → ((wanted : Command) → read bytes ≡ Ok wanted → IsCommand wanted)
    → (line : ReadLine) → line ≡ read bytes → IsRead line
read_ranged bytes law (Ok wanted) is = law wanted (sym is)
read_ranged bytes law (Err fault) is = tt

on_both : {T E : Type 0} (P Q : Type 0) (r : Result T E) → OnOk r P → OnOk r Q → OnOk r (P × Q)
on_both P Q (Ok v) p q = (p, q)
on_both P Q (Err e) p q = tt

abbrev state_of : SlowSite → Option (List Asked) → NodeState
state_of slow waiting = record { site = slow; waiting = waiting }

met_as : {state : NodeState} {old : Conversation} {journal : SeenJournal} {waiting : Option (List Asked)}
    → waiting ≡ old.waiting → MeetsState state old journal
    → state ≡ state_of state.site waiting
met_as {state} is m = λ i. state_of state.site (sym (is ∙ m.waiting) i)

-- the member did what it owes where these lines waited, and those wait that the state has then
pub carries_state : {T : Type 0} (r : Result T End) (line : ReadLine) → IsRead line
    → (old new : Conversation) (waiting : Option (List Asked)) → waiting ≡ old.waiting
    → {output output' : SeenSink} {journal journal' : SeenJournal} {link link' : SeenLink} {steps steps' : ℕ}
    → Carries (for_waiting waiting line) r (node old.member output journal link steps)
    (node new.member output' journal' link' steps')
    → OnOk r (new.waiting ≡ waits_behind waiting line)
    → owing.Carries MeetsState (answering.for_line node_manner line) r (at old output journal link steps)
    (at new output' journal' link' steps')
carries_state r line ranged old new waiting was {link = link} h waits = record {
  does = λ state m input. does_as
      (ap (λ (s : NodeState). node_manner.effects s (told link.entries) line) (met_as was m))
      (h.does state.site m.member input);
  goes = on_ok_map r (λ both state m.
      let es = told link.entries in
      let g = both.0 state.site m.member in
      let now : new.waiting ≡ (after_line_of state.site waiting es line).waiting = both.1
      ∙ sym (waits_after state.site waiting es line) in
      let are = subst AreAskedOf (sym (was ∙ m.waiting)) m.ranged in
      record {
        reached = state_of g.reached new.waiting;
        meets_it = record {
          member = g.meets_it;
          waiting = refl;
          ranged = subst AreAskedOf (sym now) (ranged_after state.site waiting es line ranged are);
        };
        is = λ t.
            let is = g.is t in (
              (λ i. state_of (is.0 i) (now i))
                  ∙ ap (λ (s : NodeState). node_manner.state s es line) (sym (met_as was m)),
              is.1 ∙ ap (λ (s : NodeState). node_manner.left s es line) (sym (met_as was m)),
            );
      }) (on_both _ _ r h.goes waits);
  keeps = λ state m. h.keeps state.site m.member;
  name = h.name;
  opened = h.opened;
}
