-- A gesture that is made line by line has made the events of all lines.
use Rattle.std.proofs.Common.{◌≡◌, List, [], ◌∷◌, ◌++◌, Result, Ok, Err, refl, sym, ap, ◌∙◌, subst, append_assoc}
use Rattle.std.proofs.Common.{append-nil}
use Rattle.std.specs.Prelude.{OnOk}
use Rattle.gd_backs.proofs.NextEvents.{events-or_refusal, with_events-append}
use Rattle.gd_base.specs.Stamps.{Stamp}
use Rattle.gd_base.specs.declared.refusal.EditRefusal.{EditRefusal}
use Rattle.gd_base.specs.declared.refusal.Refusal.{Refusal}
use Rattle.gd_events.specs.Events.{Event}
use Rattle.gd_lines.specs.Edits.{Edit}
use Rattle.gd_reference.specs.Judging.{edit}
use Rattle.gd_reference.specs.SlowSite.{SlowSite}
use Rattle.gd_reference.specs.TakeBack.{Asked, after_asked, answer, events_in, made, with_events}
use Rattle.gd_judging.specs.Faults.{EditIs}
use Rattle.gd_site.specs.Sites.{StandsFor}
use Rattle.gd_judging.specs.declared.faults.EditFault.{EditFault}
use Rattle.gd_judging.specs.declared.faults.EditFault.TheVariants as fault
use Rattle.gd_takeback.proofs.Doing.{made-more}
use Rattle.gd_takeback.specs.Answers.{OnRefusal, StampIs}
use Rattle.gd_takeback.specs.Making.{HasMade, Makes, Making}

-- one line more
pub made-push : (slow : SlowSite) (asked : List Asked) (last : Asked)
    → made slow (asked ++ last ∷ []) ≡ made slow asked ++ events_in (answer (with_events slow (made slow asked)) last)
unfolding made with_events
made-push slow [] last = append-nil (events_in (answer slow last))
made-push slow (first ∷ asked) last =
    let here = events_in (answer slow first) in
    let there = after_asked slow first in
    ap (λ (l : List Event). here ++ l) (made-push there asked last)
    ∙ sym (append_assoc here (made there asked) (events_in (answer (with_events there (made there asked)) last)))
    ∙ ap (λ (x : SlowSite). (here ++ made there asked) ++ events_in (answer x last))
    (sym (with_events-append slow here (made there asked)))

-- unless memory ran out
abbrev pub OnAnswer : Result Stamp EditFault → Type 0 → Type 0
OnAnswer (Ok stamp) P = P
OnAnswer (Err fault.Memory) P = Unit {0}
OnAnswer (Err (fault.Refused why)) P = P

-- where an edit is refused it becomes no event
none-made : (x : Result Event EditRefusal) (why : EditFault) → EditIs x (Err why)
    → OnRefusal (Err why) (events_in x ≡ [])
none-made x fault.Memory h = tt
none-made (Err w) (fault.Refused why) h = refl
none-made (Ok e) (fault.Refused why) h = cc

module _ (slow : SlowSite) (asked : List Asked) (old : Making) (has : HasMade slow (made slow asked) old) where
  -- a line that is refused changes nothing
  pub refused-made : (why : Refusal) → HasMade slow (made slow (asked ++ Err why ∷ [])) old
  refused-made why =
      subst (λ (es : List Event). HasMade slow es old)
      (sym (made-push slow asked (Err why) ∙ append-nil (made slow asked))) has

  -- an edit's event is made, where it has one
  pub edit-made : (wanted : Edit) (new : Making) (r : Result Stamp EditFault)
      → ((there : SlowSite) → StandsFor there old.site → StampIs (edit there wanted) r)
      → ((there : SlowSite) → StandsFor there old.site → (e : Event) → edit there wanted ≡ Ok e
      → OnOk r (Makes there e old new))
      → OnRefusal r (new ≡ old) → OnAnswer r (HasMade slow (made slow (asked ++ Ok wanted ∷ [])) new)
  edit-made wanted new r answers makes keeps = go r (answers there has.site) (makes there has.site) keeps
    where
      there : SlowSite
      there = with_events slow (made slow asked)

      all : made slow (asked ++ Ok wanted ∷ []) ≡ made slow asked ++ events_in (edit there wanted)
      all =
          made-push slow asked (Ok wanted)
          ∙ ap (λ (l : List Event). made slow asked ++ l) (events-or_refusal (edit there wanted))

      stays : events_in (edit there wanted) ≡ [] → new ≡ old → HasMade slow (made slow (asked ++ Ok wanted ∷ [])) new
      stays none same =
          subst (λ (es : List Event). HasMade slow es new)
          (sym (all ∙ ap (λ (l : List Event). made slow asked ++ l) none ∙ append-nil (made slow asked)))
          (subst (HasMade slow (made slow asked)) (sym same) has)

      go : (x : Result Stamp EditFault) → StampIs (edit there wanted) x
          → ((e : Event) → edit there wanted ≡ Ok e → OnOk x (Makes there e old new)) → OnRefusal x (new ≡ old)
          → OnAnswer x (HasMade slow (made slow (asked ++ Ok wanted ∷ [])) new)
      go (Ok stamp) is made_by same =
          subst (λ (es : List Event). HasMade slow es new)
          (sym (all ∙ ap (λ (x : Result Event EditRefusal). made slow asked ++ events_in x) is.1))
          (made-more slow (made slow asked) is.0 old new has (made_by is.0 is.1))
      go (Err fault.Memory) is made_by same = tt
      go (Err (fault.Refused why)) is made_by same =
          stays (none-made (edit there wanted) (fault.Refused why) is) same
