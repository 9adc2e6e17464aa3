-- Several lines that go out as one piece.
use Rattle.std.proofs.Common.{◌≡◌, ℕ, zero, suc, ◌≤◌, ◌==◌, true, false, List, [], ◌∷◌, ◌++◌, length, map, refl, sym}
use Rattle.std.proofs.Common.{◌∙◌, ap, ap₂, subst, append_assoc, length-append, arith}
use Rattle.std.proofs.lemmas.Bool.{eqb-true}
use Rattle.std.proofs.lemmas.List.{append-nil, map-append}
use Rattle.std.specs.List.{concat}
use Rattle.std.specs.Prelude.{Ok, Err}
use Rattle.gd_outside.specs.Causes.{Rose}
use Rattle.gd_outside.specs.Seen.{SeenJournal, SeenSink}
use Rattle.gd_outside.specs.Told.{Grows, GrowsByFront, told}
use Rattle.gd_outside.specs.declared.end.End.TheVariants.{WriteFault}
use Rattle.gd_outside.proofs.ToldLemmas.{grows_nothing, grows_then}
use Rattle.gd_effects.proofs.Crashing.{journals_stay}
use Rattle.gd_effects.proofs.Doing.{printed-append}
use Rattle.gd_effects.proofs.OneLine.{IsOut}
use Rattle.gd_effects.specs.Done.{Did, Journals}
use Rattle.gd_effects.specs.Effects.{Effect, Print, cost, gestures, journal_after, printed, tried}
use Rattle.gd_effects.specs.Outside.{outside}
use Rattle.gd_effects.specs.Prints.{Prints}

pub some_left : (n : ℕ) → false ≡ (n == 0) → 1 ≤ n
some_left zero e = cc
some_left (suc n) e = omega arith

pub none_left : (xs : List ℕ) → true ≡ (length xs == 0) → xs ≡ []
none_left [] e = refl
none_left (x ∷ xs) e = absurd (omega (arith, eqb-true (length (x ∷ xs)) 0 (sym e)))

-- ---- the lines

-- where these bytes end within the lines: behind some of them, in the middle of another
record Cut (lines : List (List ℕ)) (out : List ℕ) : Type 0 where
  before : List (List ℕ)
  half : List ℕ
  rest : List ℕ
  after : List (List ℕ)
  split : lines ≡ before ++ (half ++ rest) ∷ after
  is : out ≡ concat before ++ half

-- a byte more in front of the first line
longer : (x y : ℕ) (line : List ℕ) (lines : List (List ℕ)) (out : List ℕ) → x ≡ y → Cut (line ∷ lines) out
    → Cut ((x ∷ line) ∷ lines) (y ∷ out)
longer x y line lines out same c = go c.before c.split c.is
  where
    go : (before : List (List ℕ)) → line ∷ lines ≡ before ++ (c.half ++ c.rest) ∷ c.after
        → out ≡ concat before ++ c.half → Cut ((x ∷ line) ∷ lines) (y ∷ out)
    go [] split is = record { before = []; half = x ∷ c.half; rest = c.rest; after = c.after; split = cc; is = cc }
    go (b ∷ bs) split is = record
        { before = (x ∷ b) ∷ bs; half = c.half; rest = c.rest; after = c.after; split = cc; is = cc }

cut : (line : List ℕ) (lines : List (List ℕ)) (out left : List ℕ) → line ++ concat lines ≡ out ++ left
    → Cut (line ∷ lines) out
cut line lines [] left same = record { before = []; half = []; rest = line; after = lines; split = refl; is = refl }
cut (x ∷ line) lines (y ∷ out) left same =
    let head : x ≡ y = cc in
    let rest : line ++ concat lines ≡ out ++ left = cc in
    longer x y line lines out head (cut line lines out left rest)
cut [] (line ∷ lines) (y ∷ out) left same =
    let c = cut line lines (y ∷ out) left same in
    record {
      before = [] ∷ c.before;
      half = c.half;
      rest = c.rest;
      after = c.after;
      split
          = ap (λ (l : List (List ℕ)). [] ∷ l) c.split;
      is = c.is;
    }
cut [] [] (y ∷ out) left same = cc

cut_of : (lines : List (List ℕ)) (out left : List ℕ) → concat lines ≡ out ++ left → 1 ≤ length (concat lines)
    → Cut lines out
cut_of [] out left same some = absurd (omega (arith, some))
cut_of (line ∷ lines) out left same some = cut line lines out left same

-- ---- as effects

printed_all : (lines : List (List ℕ)) → printed (map Print lines) ≡ concat lines
printed_all [] = refl
printed_all (line ∷ lines) = ap (λ (l : List ℕ). line ++ l) (printed_all lines)

journal_stays : (lines : List (List ℕ)) (contents : List ℕ) → contents ≡ journal_after contents (map Print lines)
journal_stays [] contents = refl
journal_stays (line ∷ lines) contents = journal_stays lines contents

records_none : (lines : List (List ℕ)) → [] ≡ gestures (map Print lines)
records_none [] = refl
records_none (line ∷ lines) = records_none lines

tries_none : (lines : List (List ℕ)) → [] ≡ tried (map Print lines)
tries_none [] = refl
tries_none (line ∷ lines) = tries_none lines

costs_none : (lines : List (List ℕ)) → cost (map Print lines) ≡ 0
costs_none [] = refl
costs_none (line ∷ lines) = costs_none lines

stays : (journal : SeenJournal) (lines : List (List ℕ)) → Journals journal (map Print lines) journal
stays journal lines = journals_stay journal (map Print lines) (journal_stays lines (told journal.contents))
    (records_none lines)

module _ (lines : List (List ℕ)) {old now : SeenSink} {text left : List ℕ} (are : text ≡ concat lines)
    (h : IsOut old text now left) where
  pub all_lines_out : {T : Type 0} (v : T) → left ≡ [] → Prints old (map Print lines) (Ok v) now
  all_lines_out v e input journal link steps = record {
    counts = record { input = omega arith; output = h.count; journal = omega arith; link = omega arith };
    cause = tt;
    was = record { input = λ t. t; entries = λ t. t };
    done = λ t. record {
      output =
          subst (λ z. Grows old.bytes z now.bytes)
          (sym (printed_all lines ∙ sym are ∙ h.split ∙ ap (λ z. h.out ++ z) e ∙ append-nil h.out)) h.grows;
      journal = stays journal lines;
      tried = subst (λ z. Grows link.tried z link.tried) (tries_none lines) (grows_nothing link.tried);
      steps = omega (arith, costs_none lines);
    };
  }

  -- where a write fails there is a line that isn't out
  pub some_lines_out : {T : Type 0} {new : SeenSink} → 1 ≤ length left → GrowsByFront now.bytes left new.bytes
      → Rose now.faults new.faults → now.faults ≤ new.faults
      → Prints {T = T} old (map Print lines) (Err WriteFault) new
  some_lines_out {new = new} some g c more input journal link steps =
      let cuts = sym are ∙ h.split ∙ ap (λ z. h.out ++ z) g.split ∙ sym (append_assoc h.out g.front g.back) in
      let long : 1 ≤ length (concat lines)
      = omega (arith, some, ap length h.split, length-append h.out left, ap length are) in
      let c' = cut_of lines (h.out ++ g.front) g.back cuts long in
      let out = map Print c'.before ++ Print c'.half ∷ [] in
      let prints : printed out ≡ h.out ++ g.front =
      printed-append (map Print c'.before) (Print c'.half ∷ [])
      ∙ ap₂ (λ a b. a ++ b) (printed_all c'.before) (append-nil c'.half) ∙ sym c'.is in
      record {
        counts = record {
          input = omega arith;
          output = omega (arith, h.count);
          journal = omega arith;
          link
              = omega arith;
        };
        cause = omega (arith, h.count);
        was = record { input = λ t. t; entries = λ t. t };
        done = λ t. record {
          front = map Print c'.before;
          half = c'.half;
          rest = c'.rest;
          back = map Print c'.after;
          split = ap (map Print) c'.split ∙ map-append Print c'.before ((c'.half ++ c'.rest) ∷ c'.after);
          did = subst (λ xs. Did (outside input old journal link steps) xs (outside input new journal link steps))
              (map-append Print c'.before (c'.half ∷ [])) (record {
                output = subst (λ z. Grows old.bytes z new.bytes)
                    (sym (ap printed (map-append Print c'.before (c'.half ∷ [])) ∙ prints))
                    (grows_then h.grows g.grows);
                journal = stays journal (c'.before ++ c'.half ∷ []);
                tried = subst (λ z. Grows link.tried z link.tried) (tries_none (c'.before ++ c'.half ∷ []))
                    (grows_nothing link.tried);
                steps = omega (arith, costs_none (c'.before ++ c'.half ∷ []));
              });
        };
      }
