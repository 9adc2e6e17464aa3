-- What a viewer was shown of the items of an input so far, and how its run ends from there.
use Rattle.std.proofs.Common.{◌≡◌, ℕ, suc, ◌+◌, List, [], ◌∷◌, ◌++◌, length, map, take, drop, refl, sym, ap, ◌∙◌, subst}
use Rattle.std.proofs.Common.{append_assoc, append-nil, length-append, length-take-le, take-append-drop, arith}
use Rattle.std.specs.Prelude.{Result, Ok, Err, IfOk, IsErrAnd, IsSome}
use Rattle.gd_base.specs.declared.fault.ViewWhy.{ViewWhy}
use Rattle.gd_effects.proofs.Doing.{did_as, did_nothing, does_as, does_exit, does_more, does_nothing, does_ok}
use Rattle.gd_effects.proofs.Doing.{does_then, does_when, told_before}
use Rattle.gd_effects.proofs.RunEnds.{no_read}
use Rattle.gd_effects.specs.Done.{Did, Does, DoesAll}
use Rattle.gd_effects.specs.Effects.{Effect, Print}
use Rattle.gd_effects.specs.Outside.{Outside, outside}
use Rattle.gd_effects.specs.Prints.{Prints, PrintsInSteps}
use Rattle.gd_effects.specs.Runs.{RunsAs}
use Rattle.gd_grammar.specs.Reading.{place}
use Rattle.gd_handover.specs.Parts.{Grown}
use Rattle.gd_lines.specs.declared.reply.Reply.TheVariants as reply
use Rattle.gd_outside.proofs.ToldLemmas.{hands_out_then}
use Rattle.gd_outside.specs.Called.{SourceCalled}
use Rattle.gd_outside.specs.Seen.{SeenSource, SeenSink, SeenJournal, SeenLink}
use Rattle.gd_outside.specs.Told.{told, HandsOut}
use Rattle.gd_outside.specs.declared.end.End.{End}
use Rattle.gd_outside.specs.declared.end.End.TheVariants.{ReadFault}
use Rattle.gd_outside.specs.declared.status.Status.{Status}
use Rattle.gd_outside.specs.declared.status.Status.TheVariants.{Done, BadView, LineLimit}
use Rattle.gd_reference.specs.DrawingText.{text}
use Rattle.gd_reference.specs.Said.{says}
use Rattle.gd_snapshots.specs.SnapshotBytes.{SnapshotMisread}
use Rattle.gd_viewer.specs.Viewers.{StandsFor, ViewerValue}
use Rattle.gd_viewing.specs.SlowViewer.{SlowViewer, viewed}
use Rattle.gd_viewing.specs.Viewing.{Item, Broken, Datagram, TooMany, after_item, end_behind, items_of, most_items}
use Rattle.gd_viewing.specs.Viewing.{of_item, shown_behind, whole_behind}
use Rattle.gd_watch.specs.Items.{ComesNext, IsCut, IsWhole}
use Rattle.gd_watch.specs.declared.items.Next.TheVariants as next
use Rattle.gd_watch.proofs.ItemLemmas.{items_broken, items_first, items_none, items_over}

-- ---- what items owe

-- these effects, and the run ends so
record Owes (all : List ℕ) (v : SlowViewer) (items : List Item) (xs : List Effect) (whole : Status) : Type 0 where
  effects : shown_behind all v items ≡ xs
  end : end_behind items ≡ whole

module _ (all : List ℕ) (v : SlowViewer) where
  owes_drawing : Owes all v [] (map Print (text (viewed v))) Done
  unfolding shown_behind end_behind
  owes_drawing = record { effects = refl; end = refl }

  owes_limit : Owes all v (TooMany ∷ []) (says reply.LineLimit ∷ []) LineLimit
  unfolding shown_behind end_behind
  owes_limit = record { effects = refl; end = refl }

  owes_fault : (fault : SnapshotMisread)
      → Owes all v (Broken fault ∷ []) (says (reply.BadView (place all fault.left) fault.why) ∷ []) BadView
  unfolding shown_behind end_behind
  owes_fault fault = record { effects = refl; end = refl }

  module _ (bytes : List ℕ) (items : List Item) where
    shown_first : shown_behind all v (Datagram bytes ∷ items)
        ≡ of_item v bytes ++ shown_behind all (after_item v bytes) items
    unfolding shown_behind
    shown_first = refl

    whole_first : whole_behind v (Datagram bytes ∷ items) ≡ of_item v bytes ++ whole_behind (after_item v bytes) items
    unfolding whole_behind
    whole_first = refl

    end_first : end_behind (Datagram bytes ∷ items) ≡ end_behind items
    unfolding end_behind
    end_first = refl

-- an item that isn't whole owes nothing yet
none_whole : (v : SlowViewer) (most : ℕ) (bytes : List ℕ) → IsCut most bytes → whole_behind v (items_of most bytes) ≡ []
unfolding whole_behind
none_whole v most [] c = ap (whole_behind v) (items_none most)
none_whole v most (b ∷ bytes) c
    = ap (whole_behind v) (items_broken most (b ∷ bytes) _ (c.room (omega arith)) (omega arith) c.is)

-- ---- reading

module _ {a b : SeenSource} {failed : Type 0} (called : SourceCalled a b failed) (output : SeenSink)
    (journal : SeenJournal) (link : SeenLink) (steps : ℕ) where
  pub did_read : Did (outside a output journal link steps) [] (outside b output journal link steps)
  did_read = let d = did_nothing (outside a output journal link steps)
      in record { output = d.output; journal = d.journal; tried = d.tried; steps = d.steps }

  -- nothing else is done
  pub reads_on : DoesAll (outside a output journal link steps) [] (outside b output journal link steps)
  reads_on = record {
    counts = record { input = called.count; output = omega arith; journal = omega arith; link = omega arith };
    cause = tt;
    was = record { input = called.handed.was; entries = λ t. t };
    done = λ t. did_read;
  }

  pub reads_and_fails : failed
      → Does {T = Status} (Err ReadFault) (outside a output journal link steps) [] (outside b output journal link steps)
  reads_and_fails f = record {
    counts = record { input = called.count; output = omega arith; journal = omega arith; link = omega arith };
    cause = called.cause f;
    was = record { input = called.handed.was; entries = λ t. t };
    done = λ t. record { front = []; back = []; split = refl; did = did_read };
  }

-- the early end that `?` hands on
pub err_is : {T : Type 0} {e : End} (r : Result T End) → IsErrAnd r (λ y. y ≡ e) → r ≡ Err e
err_is (Ok v) is = absurd is
err_is (Err y) is = ap (λ z. Err z) is

-- ---- so far

-- Items that stand behind `front` were shown. Of these bytes were taken, the others are ahead, and so many items may
-- come yet.
pub record SoFar (front : List ℕ) (v : SlowViewer) (old : Outside) (most at : ℕ) (ahead : List ℕ) (viewer : ViewerValue)
    (now : Outside) : Type 0 where
  pub taken : List ℕ
  pub handed : HandsOut old.input.left (taken ++ ahead) now.input.left
  pub there : at ≡ length (front ++ taken)
  pub reached : SlowViewer
  pub stands : StandsFor reached viewer
  pub done : List Effect
  pub does : DoesAll old done now
  pub shown : (all rest : List ℕ)
      → shown_behind all v (items_of most_items (taken ++ rest)) ≡ done ++ shown_behind all reached (items_of most rest)
  pub whole : (rest : List ℕ)
      → whole_behind v (items_of most_items (taken ++ rest)) ≡ done ++ whole_behind reached (items_of most rest)
  pub end : (rest : List ℕ) → end_behind (items_of most_items (taken ++ rest)) ≡ end_behind (items_of most rest)

pub nothing_so_far : (front : List ℕ) (v : SlowViewer) (old : Outside) (most at : ℕ) (ahead : List ℕ)
    (viewer : ViewerValue) → most ≡ most_items → at ≡ length front → ahead ≡ [] → StandsFor v viewer
    → SoFar front v old most at ahead viewer old
nothing_so_far front v old most at ahead viewer all there none stands = record {
  taken = [];
  handed = subst (λ (z : List ℕ). HandsOut old.input.left z old.input.left) (sym none)
      (record { was = λ t. t; now = λ t. refl });
  there = there ∙ ap length (sym (append-nil front));
  reached = v;
  stands = stands;
  done = [];
  does = does_nothing old;
  shown = λ whole rest. ap (λ (n : ℕ). shown_behind whole v (items_of n rest)) (sym all);
  whole = λ rest. ap (λ (n : ℕ). whole_behind v (items_of n rest)) (sym all);
  end = λ rest. ap (λ (n : ℕ). end_behind (items_of n rest)) (sym all);
}

-- the run came to this result
abbrev pub Runs : List ℕ → SlowViewer → Outside → Result Status End → Outside → Type 0
Runs front v old r new =
    RunsAs (shown_behind (front ++ told old.input.left) v (items_of most_items (told old.input.left)))
    (λ taken. whole_behind v (items_of most_items taken)) (end_behind (items_of most_items (told old.input.left))) r old
    new

module _ {front : List ℕ} {v : SlowViewer} {old : Outside} {most at : ℕ} {ahead : List ℕ} {viewer : ViewerValue}
    {a : SeenSource} {output : SeenSink} {journal : SeenJournal} {link : SeenLink} {steps : ℕ}
    (h : SoFar front v old most at ahead viewer (outside a output journal link steps)) {b : SeenSource} {bytes : List ℕ}
    {failed : Type 0} (grown : Grown ahead bytes a b failed) where
  -- more was read ahead
  handed_ahead : HandsOut old.input.left (h.taken ++ bytes) b.left
  handed_ahead =
      subst (λ (z : List ℕ). HandsOut old.input.left z b.left)
      (append_assoc h.taken ahead grown.called.taken ∙ ap (λ (z : List ℕ). h.taken ++ z) (sym grown.is))
      (hands_out_then h.handed grown.called.handed)

  read_on : DoesAll old h.done (outside b output journal link steps)
  read_on = does_as (sym (append-nil h.done)) (does_then h.does (reads_on grown.called output journal link steps))

  -- all bytes of the input
  bytes_are : IsSome b.left → told old.input.left ≡ h.taken ++ (bytes ++ told b.left)
  bytes_are t = handed_ahead.now t ∙ append_assoc h.taken bytes (told b.left)

  abbrev all : List ℕ
  all = front ++ told old.input.left

  abbrev left : List Item
  left = items_of most (bytes ++ told b.left)

  -- what there is to do in all
  in_all : IsSome b.left
      → shown_behind all v (items_of most_items (told old.input.left)) ≡ h.done ++ shown_behind all h.reached left
  in_all t = ap (λ (z : List ℕ). shown_behind all v (items_of most_items z)) (bytes_are t)
      ∙ h.shown all (bytes ++ told b.left)

  -- a read failed
  pub runs_cut : failed → IsCut most bytes → Runs front v old (Err ReadFault) (outside b output journal link steps)
  runs_cut f cut = record {
    does = does_when _ (λ t. in_all t.input)
        (does_then h.does (does_more (shown_behind all h.reached left)
        (reads_and_fails grown.called output journal link steps f)));
    end = λ t. tt;
    read = λ e t. record {
      taken = h.taken ++ bytes;
      handed = handed_ahead;
      did = did_as (h.whole bytes ∙ ap (λ (z : List Effect). h.done ++ z) (none_whole h.reached most bytes cut)
          ∙ append-nil h.done) (read_on.done t);
    };
  }

  -- the last call does what is left
  runs_last : (r : Result Status End) (new : Outside) {xs : List Effect} {whole : Status}
      → (IsSome b.left → Owes all h.reached left xs whole)
      → Does r (outside b output journal link steps) xs new → IfOk r (λ (s : Status). s ≡ whole)
      → (r ≡ Err ReadFault → ⊥) → Runs front v old r new
  runs_last r new owes last end no_fault = record {
    does = does_when _ (λ t. let u = told_before last.was t in in_all u.input
        ∙ ap (λ (z : List Effect). h.done ++ z) (owes u.input).effects) (does_then read_on last);
    end = λ t. let u = told_before last.was t in
        let is = ap (λ (z : List ℕ). end_behind (items_of most_items z)) (bytes_are u.input)
        ∙ h.end (bytes ++ told b.left) ∙ (owes u.input).end in
        subst (λ (z : Status). IfOk r (λ (s : Status). s ≡ z)) (sym is) end;
    read = λ e. absurd (no_fault e);
  }

  -- what is owed by what is left, in other words
  owes_as : {items : List Item} {xs : List Effect} {whole : Status} → left ≡ items → Owes all h.reached items xs whole
      → Owes all h.reached left xs whole
  owes_as e owes = record
      { effects = ap (shown_behind all h.reached) e ∙ owes.effects; end = ap end_behind e ∙ owes.end }

  module _ (r : Result Status End) {new : SeenSink} where
    -- the drawing is printed
    pub runs_shown : ComesNext most next.End bytes b.left
        → ((s : SlowViewer) → StandsFor s viewer → Prints output (map Print (text (viewed s))) r new)
        → IfOk r (λ (s : Status). s ≡ Done)
        → Runs front v old r (outside b new journal link steps)
    runs_shown over prints end =
        let print = prints h.reached h.stands in
        runs_last r (outside b new journal link steps)
        (λ t. owes_as (ap (items_of most) (λ i. over.0 i ++ over.1 t i) ∙ items_none most) (owes_drawing all h.reached))
        (print b journal link steps) end (no_read r (λ input journal link. print input journal link steps))

    -- the limit is
    pub runs_over : ComesNext most next.TooMany bytes b.left → Prints output (says reply.LineLimit ∷ []) r new
        → IfOk r (λ (s : Status). s ≡ LineLimit)
        → Runs front v old r (outside b new journal link steps)
    runs_over over print end =
        runs_last r (outside b new journal link steps)
        (λ t. owes_as (items_over most (bytes ++ told b.left) over.0
        (omega (arith, over.1, length-append bytes (told b.left)))) (owes_limit all h.reached))
        (print b journal link steps) end (no_read r (λ input journal link. print input journal link steps))

    -- a fault is
    pub runs_broken : (within place_is : ℕ) (why : ViewWhy) → ComesNext most (next.Broken within why) bytes b.left
        → place_is ≡ at + within → Prints output (says (reply.BadView place_is why) ∷ []) r new
        → IfOk r (λ (s : Status). s ≡ BadView) → Runs front v old r (outside b new journal link steps)
    runs_broken within place_is why broken is print end =
        runs_last r (outside b new journal link steps)
        (λ t.
        let m = broken.1 t in
        let fault : SnapshotMisread = record { why = why; left = m.misread.left } in
        let stands : place all fault.left ≡ place_is = omega (
          arith,
          is,
          h.there,
          m.misread.there,
          m.misread.inside,
          length-append front h.taken,
          length-append front (told old.input.left),
          ap length (bytes_are t),
          length-append h.taken (bytes ++ told b.left),
        ) in
        let owes = owes_as (items_broken most (bytes ++ told b.left) fault m.room
        (omega (arith, m.some, length-append bytes (told b.left))) m.misread.is) (owes_fault all h.reached fault) in
        record { effects = owes.effects ∙ ap (λ (n : ℕ). says (reply.BadView n why) ∷ []) stands; end = owes.end })
        (print b journal link steps) end (no_read r (λ input journal link. print input journal link steps))

  module _ {count : ℕ} (item : IsWhole most bytes count) (most' : ℕ) (turn : most ≡ suc most') where
    abbrev first : List ℕ
    first = take (count + 2) bytes

    abbrev datagram : List ℕ
    datagram = take count (drop 2 bytes)

    abbrev behind : List ℕ
    behind = drop (count + 2) bytes

    first_long : length first ≡ count + 2
    first_long = length-take-le (count + 2) bytes item.fits

    split : first ++ behind ≡ bytes
    split = take-append-drop (count + 2) bytes

    items_are : (rest : List ℕ) → items_of most (first ++ rest) ≡ Datagram datagram ∷ items_of most' rest
    items_are rest =
        ap (λ (n : ℕ). items_of n (first ++ rest)) turn
        ∙ items_first most' (first ++ rest) datagram rest (omega (arith, first_long, length-append first rest))
        (item.alone rest)

    left_are : left ≡ Datagram datagram ∷ items_of most' (behind ++ told b.left)
    left_are = ap (items_of most)
        (ap (λ (z : List ℕ). z ++ told b.left) (sym split) ∙ append_assoc first behind (told b.left))
        ∙ items_are (behind ++ told b.left)

    module _ {output' : SeenSink} {steps' : ℕ} where
      -- the viewer ended early at the item
      pub runs_stopped : {e : End} (r : Result Status End) → IsErrAnd r (λ y. y ≡ e)
          → ((s : SlowViewer) → StandsFor s viewer
          → PrintsInSteps {T = Unit {0}} output steps (of_item s datagram) (Err e) output' steps')
          → Runs front v old r (outside b output' journal link steps')
      runs_stopped {e} r is takes =
          let rest = shown_behind all (after_item h.reached datagram) (items_of most' (behind ++ told b.left)) in
          let cut : PrintsInSteps {T = Status} output steps (of_item h.reached datagram) (Err e) output' steps' =
          λ input journal link. does_exit {U = Unit {0}} (Err e) refl (takes h.reached h.stands input journal link) in
          subst (λ (q : Result Status End). Runs front v old q (outside b output' journal link steps'))
          (sym (err_is r is))
          (runs_last (Err e) (outside b output' journal link steps')
          (λ t. owes_as left_are
          (record {
            effects = shown_first all h.reached datagram (items_of most' (behind ++ told b.left));
            end
                = refl;
          }))
          (does_more rest (cut b journal link)) tt (no_read (Err e) cut))

      -- it took the item
      pub one_more : {viewer' : ViewerValue} {at' : ℕ} {ahead' : List ℕ} {u : Unit {0}} → at' ≡ at + (count + 2)
          → ahead' ≡ behind
          → ((s : SlowViewer) → StandsFor s viewer
          → PrintsInSteps output steps (of_item s datagram) (Ok u) output' steps')
          → ((s : SlowViewer) → StandsFor s viewer → StandsFor (after_item s datagram) viewer')
          → SoFar front v old most' at' ahead' viewer' (outside b output' journal link steps')
      one_more {ahead' = ahead'} there ahead_is takes reached =
          let owed = of_item h.reached datagram in
          let next_v = after_item h.reached datagram in
          let first_all : (rest : List ℕ)
          → (h.taken ++ first) ++ rest ≡ h.taken ++ (first ++ rest) = λ rest. append_assoc h.taken first rest in
          record {
            taken = h.taken ++ first;
            handed = subst (λ (z : List ℕ). HandsOut old.input.left z b.left)
                (ap (λ (z : List ℕ). h.taken ++ z) (sym split) ∙ sym (append_assoc h.taken first behind)
                ∙ ap (λ (z : List ℕ). (h.taken ++ first) ++ z) (sym ahead_is)) handed_ahead;
            there = omega (
              arith,
              there,
              h.there,
              length-append front h.taken,
              length-append front (h.taken ++ first),
              length-append h.taken first,
              first_long,
            );
            reached = next_v;
            stands = reached h.reached h.stands;
            done = h.done ++ owed;
            does = does_ok tt (does_then read_on (takes h.reached h.stands b journal link));
            shown = λ whole rest.
                ap (λ (z : List ℕ). shown_behind whole v (items_of most_items z)) (first_all rest)
                ∙ h.shown whole (first ++ rest)
                ∙ ap (λ (z : List Item). h.done ++ shown_behind whole h.reached z) (items_are rest)
                ∙ ap (λ (z : List Effect). h.done ++ z) (shown_first whole h.reached datagram (items_of most' rest))
                ∙ sym (append_assoc h.done owed (shown_behind whole next_v (items_of most' rest)));
            whole = λ rest.
                ap (λ (z : List ℕ). whole_behind v (items_of most_items z)) (first_all rest) ∙ h.whole (first ++ rest)
                ∙ ap (λ (z : List Item). h.done ++ whole_behind h.reached z) (items_are rest)
                ∙ ap (λ (z : List Effect). h.done ++ z) (whole_first [] h.reached datagram (items_of most' rest))
                ∙ sym (append_assoc h.done owed (whole_behind next_v (items_of most' rest)));
            end = λ rest.
                ap (λ (z : List ℕ). end_behind (items_of most_items z)) (first_all rest) ∙ h.end (first ++ rest)
                ∙ ap end_behind (items_are rest) ∙ end_first [] h.reached datagram (items_of most' rest);
          }
