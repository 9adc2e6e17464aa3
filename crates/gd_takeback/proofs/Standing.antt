-- What an edit, a gesture, an `undo` and a `redo` leave stands for what they leave of the reference site.
use Rattle.std.proofs.Common.{◌≡◌, ℕ, List, [], ◌∷◌, drop, length, Result, Ok, Err, refl, sym, ap, ◌∙◌, subst}
use Rattle.std.specs.Prelude.{OnOk}
use Rattle.std.specs.List.{AllByRecursion as Every}
use Rattle.gd_base.specs.declared.refusal.EditRefusal.{EditRefusal}
use Rattle.gd_events.specs.Events.{Event}
use Rattle.gd_events.specs.Ops.{Op}
use Rattle.gd_lines.specs.Edits.{Edit}
use Rattle.gd_lines.specs.InRange.{IsEdit}
use Rattle.gd_lines.specs.declared.command.Turn.{Turn}
use Rattle.gd_lines.specs.declared.command.Turn.TheVariants.{Undo, Redo}
use Rattle.gd_protocol.proofs.Backs.{due-backs}
use Rattle.gd_protocol.proofs.WellSites.{well_after_edit, well_after_gesture, well_after_turn}
use Rattle.gd_protocol.specs.Sites.{IsAsk, IsBack, IsWell}
use Rattle.gd_reference.specs.Backs.{Backs, due, kept, with_gesture, with_turn}
use Rattle.gd_reference.specs.Judging.{edit, with_event}
use Rattle.gd_reference.specs.SiteEffects.{turned}
use Rattle.gd_reference.specs.SlowSite.{SlowSite, clock}
use Rattle.gd_reference.specs.TakeBack.{Asked, BackRefusal, after_edit, after_gesture, after_turn, back_of, backs_of}
use Rattle.gd_reference.specs.TakeBack.{events_in, made, turn, turn_by, with_events, with_made, with_turned}
use Rattle.gd_site.proofs.Stands.{stands_backs}
use Rattle.gd_site.specs.Sites.{SiteValue, StandsFor}
use Rattle.gd_takeback.specs.Answers.{OnBackRefusal, PaysFor, TurnIs}
use Rattle.gd_takeback.specs.Making.{HasMade, Making}
use Rattle.gd_takeback.specs.Standing.{Handed, PassesOn, StandsWith, handed}
use Rattle.gd_takeback.specs.declared.take_back.BackFault.{BackFault}
use Rattle.gd_takeback.specs.declared.take_back.BackFault.TheVariants as fault

-- the site has made the events, and what is kept goes with them
made_stands : (slow : SlowSite) (es : List Event) (keep : List Op → Backs → Backs) → IsWell (with_made slow es keep)
    → (s : SiteValue) (backs : Backs) → StandsFor (with_events slow es) s → backs ≡ keep (backs_of slow es) slow.backs
    → StandsWith (with_made slow es keep) s backs
made_stands slow es keep well s backs stands is =
    record {
      site = stands_backs (with_events slow es) s (keep (backs_of slow es) slow.backs) well.backs_are stands;
      backs_are = is;
    }

-- ---- a gesture's own back

-- one of no operations isn't kept
pub none-kept : (ops : List Op) (backs : Backs) → length ops ≡ 0 → with_gesture ops backs ≡ backs
none-kept [] backs h = refl
none-kept (op ∷ ops) backs h = cc

pub some-kept : (ops : List Op) (backs : Backs) → (length ops ≡ 0 → ⊥)
    → with_gesture ops backs ≡ record { undos = kept ops backs.undos; redos = [] }
some-kept [] backs h = absurd (h refl)
some-kept (op ∷ ops) backs h = refl

module _ (slow : SlowSite) {old : SiteValue} {backs : Backs} (before : StandsWith slow old backs) where
  pub edit_stands : (wanted : Edit) (e : Event) → IsEdit wanted → edit slow wanted ≡ Ok e
      → (s : SiteValue) (left : Backs) → StandsFor (with_event slow e) s
      → left ≡ with_gesture (back_of slow e ∷ []) backs → StandsWith (after_edit slow wanted) s left
  unfolding after_edit with_events backs_of
  edit_stands wanted e ranged is s left stands keeps =
      let After : Result Event EditRefusal → SlowSite = λ r. with_made slow (events_in r) with_gesture in
      let well = subst (λ (r : Result Event EditRefusal). IsWell (After r)) is
      (well_after_edit slow wanted ranged before.site.well) in
      subst (λ (r : Result Event EditRefusal). StandsWith (After r) s left) (sym is)
      (made_stands slow (e ∷ []) with_gesture well s left stands
      (keeps ∙ ap (with_gesture (back_of slow e ∷ [])) before.backs_are))

  -- a gesture that has made the events of all lines, once it is kept
  pub gesture_stands : (asked : List Asked) → Every IsAsk asked → (m : Making) → HasMade slow (made slow asked) m
      → (left : Backs) → left ≡ with_gesture m.gesture.back backs → StandsWith (after_gesture slow asked) m.site left
  unfolding after_gesture
  gesture_stands asked ranged m has left keeps =
      let well = well_after_gesture slow asked ranged before.site.well in
      made_stands slow (made slow asked) with_gesture well m.site left has.site
      (keeps ∙ (λ i. with_gesture (has.back i) (before.backs_are i)))

-- ---- an undo, or a redo

-- those that are not due
abbrev pub others_of : Turn → Backs → List (List Op)
others_of Undo backs = backs.redos
others_of Redo backs = backs.undos

abbrev pub joined : Turn → List (List Op) → List (List Op) → Backs
joined Undo left others = record { undos = left; redos = others }
joined Redo left others = record { undos = others; redos = left }

rejoined : (which : Turn) (backs : Backs) → joined which (due which backs) (others_of which backs) ≡ backs
rejoined Undo backs = refl
rejoined Redo backs = refl

with_turn-is : (which : Turn) (back : List Op) (backs : Backs)
    → with_turn which back backs ≡ joined which (drop 1 (due which backs)) (kept back (others_of which backs))
with_turn-is Undo back backs = refl
with_turn-is Redo back backs = refl

module _ (slow : SlowSite) (old : SiteValue) (backs : Backs) (before : StandsWith slow old backs) (which : Turn)
    (r : Result (List Event) BackFault) (new : Handed) (paid now : ℕ)
    (passes : StandsFor slow old → Every (Every (IsBack (clock slow))) (due which backs)
    → PassesOn slow r (handed old (due which backs) (others_of which backs)) new paid now) where
  passes_on : PassesOn slow r (handed old (due which backs) (others_of which backs)) new paid now
  passes_on =
      passes before.site
      (subst (λ (b : Backs). Every (Every (IsBack (clock slow))) (due which b)) (sym before.backs_are)
      (due-backs (clock slow) which slow.backs before.site.well.backs_are))

  by_kept : turn_by slow (due which backs) ≡ turn slow which
  unfolding turn
  by_kept = ap (λ (b : Backs). turn_by slow (due which b)) before.backs_are

  pub turn_answer : TurnIs (turn slow which) r
  turn_answer = subst (λ (x : Result (List Event) BackRefusal). TurnIs x r) by_kept passes_on.answer

  pub turn_steps : PaysFor (length (turned (turn slow which))) r paid now
  turn_steps =
      subst (λ (x : Result (List Event) BackRefusal). PaysFor (length (turned x)) r paid now) by_kept passes_on.steps

  pub turn_stands : OnOk r (StandsWith (after_turn slow which) new.site (joined which new.due new.others))
  unfolding after_turn
  turn_stands = go r refl
    where
      go : (x : Result (List Event) BackFault) → r ≡ x
          → OnOk x (StandsWith (after_turn slow which) new.site (joined which new.due new.others))
      go (Err why) is = tt
      go (Ok es) is =
          let p = rw is at passes_on.passes in
          let ok : turn slow which ≡ Ok es = rw is at turn_answer in
          let well =
          subst (λ (x : Result (List Event) BackRefusal). IsWell (with_turned slow which x)) ok
          (well_after_turn slow which before.site.well) in
          let keeps : joined which new.due new.others ≡ with_turn which (backs_of slow es) slow.backs =
          (λ i. joined which (p.due i) (p.others i)) ∙ sym (with_turn-is which (backs_of slow es) backs)
          ∙ ap (with_turn which (backs_of slow es)) before.backs_are in
          subst (λ (x : Result (List Event) BackRefusal).
          StandsWith (with_turned slow which x) new.site (joined which new.due new.others)) (sym ok)
          (made_stands slow es (with_turn which) well new.site (joined which new.due new.others) p.site keeps)

  pub turn_keeps : OnBackRefusal r (StandsWith slow new.site (joined which new.due new.others))
  turn_keeps = go r passes_on.keeps
    where
      same : new ≡ handed old (due which backs) (others_of which backs)
          → StandsWith slow new.site (joined which new.due new.others)
      same is =
          record {
            site = subst (λ (h : Handed). StandsFor slow h.site) (sym is) before.site;
            backs_are = ap (λ (h : Handed). joined which h.due h.others) is ∙ rejoined which backs ∙ before.backs_are;
          }

      go : (x : Result (List Event) BackFault)
          → OnBackRefusal x (new ≡ handed old (due which backs) (others_of which backs))
          → OnBackRefusal x (StandsWith slow new.site (joined which new.due new.others))
      go (Ok es) is = tt
      go (Err fault.NoMemory) is = tt
      go (Err why) is = same is
