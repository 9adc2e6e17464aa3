-- What a loop over the lines of an input hears. What is still to be read is what the reader keeps pending, and behind
-- it what the source has left, where it tells that.
use Rattle.std.proofs.Common.{◌≡◌, ℕ, suc, Bool, true, false, List, [], ◌∷◌, ◌++◌, refl, sym, ◌∙◌, ap, subst}
use Rattle.std.proofs.Common.{append_assoc}
use Rattle.std.proofs.lemmas.List.{append-nil}
use Rattle.std.specs.Prelude.{Option, IsSome}
use Rattle.gd_input.specs.Cutting.{HasNoLf}
use Rattle.gd_input.specs.Reading.{ReadsNext, Takes}
use Rattle.gd_input.specs.declared.next.Next.TheVariants.{Line, TooLong, Finished}
use Rattle.gd_input.proofs.LineLemmas.{no_bytes_have_no_lines, a_line_goes_up_to_lf, the_last_line_goes_up_to_the_end}
use Rattle.gd_input.proofs.LineLemmas.{no_lines_are_heard, a_line_is_heard, one_line_too_many_is_over}
use Rattle.gd_input.proofs.LineLemmas.{too_long_a_line_is_over, a_line_and_its_lf_are_whole}
use Rattle.gd_input.proofs.LineLemmas.{without_lf_no_line_is_whole}
use Rattle.gd_outside.proofs.ToldLemmas.{hands_out_then}
use Rattle.gd_outside.specs.Told.{told, HandsOut}
use Rattle.gd_reference.specs.InputLines.{lf, Heard, Read, Over, lines_of, heard, whole_lines}

-- at the start that is the whole input
pub at_the_start_all_is_to_be_read : {pending : List ℕ} (input : Option (List ℕ)) → pending ≡ []
    → pending ++ told input ≡ told input
at_the_start_all_is_to_be_read input e = ap (λ z. z ++ told input) e

-- bytes that are taken stay among those that are still to be read
takes_from_the_rest : {p bytes : List ℕ} {a b : Option (List ℕ)} → Takes p a bytes b → IsSome b
    → p ++ told a ≡ bytes ++ told b
takes_from_the_rest {p = p} {b = b} h t =
    ap (λ z. p ++ z) (h.handed.now t) ∙ sym (append_assoc p h.taken (told b)) ∙ ap (λ z. z ++ told b) (sym h.are)

-- the first line of what is still to be read, and the lines behind it
first_line : {A : Type 0} {read : List ℕ → A} {p p' : List ℕ} {a b : Option (List ℕ)} {meaning : A} (is_last : Bool)
    → (h : ReadsNext read p a (Line meaning is_last) p' b) → IsSome b
    → lines_of (p ++ told a) ≡ h.cuts.line ∷ lines_of (p' ++ told b)
first_line {p' = p'} {b = b} false h t =
    ap lines_of (takes_from_the_rest h.takes t ∙ ap (λ z. z ++ told b) h.cuts.split
    ∙ append_assoc h.cuts.line (lf ∷ p') (told b))
    ∙ a_line_goes_up_to_lf h.cuts.line (p' ++ told b) h.cuts.one
first_line {p' = p'} {b = b} true h t =
    let none : p' ++ told b ≡ [] = ap (λ z. z ++ told b) h.cuts.split.2 ∙ h.end refl t in
    ap lines_of (takes_from_the_rest h.takes t ∙ ap (λ z. z ++ told b) h.cuts.split.0
    ∙ ap (λ z. h.cuts.line ++ z) (h.end refl t) ∙ append-nil h.cuts.line)
    ∙ the_last_line_goes_up_to_the_end h.cuts.line h.cuts.one h.cuts.split.1
    ∙ ap (λ ls. h.cuts.line ∷ ls) (sym (ap lines_of none ∙ no_bytes_have_no_lines))

module _ {A : Type 0} {read : List ℕ → A} {p p' : List ℕ} {a b : Option (List ℕ)} (t : IsSome b) where
  -- a line that was read is heard, and then the lines of what is still to be read
  pub a_line_is_heard_first : {is_last : Bool} {meaning : A} (most : ℕ) → ReadsNext read p a (Line meaning is_last) p' b
      → heard read (suc most) (lines_of (p ++ told a)) ≡ Read meaning ∷ heard read most (lines_of (p' ++ told b))
  a_line_is_heard_first {is_last = is_last} most h =
      ap (heard read (suc most)) (first_line is_last h t)
      ∙ a_line_is_heard read most h.cuts.line (lines_of (p' ++ told b)) h.cuts.fits
      ∙ ap (λ z. Read z ∷ heard read most (lines_of (p' ++ told b))) (sym h.cuts.is)

  -- a line where there may be none is one too many
  pub one_line_too_many_is_the_last : {is_last : Bool} {meaning : A} → ReadsNext read p a (Line meaning is_last) p' b
      → heard read 0 (lines_of (p ++ told a)) ≡ Over ∷ []
  one_line_too_many_is_the_last {is_last = is_last} h =
      ap (heard read 0) (first_line is_last h t) ∙ one_line_too_many_is_over read h.cuts.line (lines_of (p' ++ told b))

  -- behind the last line nothing is heard
  pub nothing_is_heard_behind_the_last : {meaning : A} (most : ℕ) → ReadsNext read p a (Line meaning true) p' b
      → heard read most (lines_of (p' ++ told b)) ≡ []
  nothing_is_heard_behind_the_last most h =
      ap (λ z. heard read most (lines_of z)) (ap (λ z. z ++ told b) h.cuts.split.2 ∙ h.end refl t)
      ∙ ap (heard read most) no_bytes_have_no_lines ∙ no_lines_are_heard read most

  -- a line that is too long is the last that is heard
  pub too_long_a_line_is_the_last : (most : ℕ) → ReadsNext read p a TooLong p' b
      → heard read most (lines_of (p ++ told a)) ≡ Over ∷ []
  too_long_a_line_is_the_last most h =
      let long = h.cuts.0 in
      ap (λ z. heard read most (lines_of z))
      (takes_from_the_rest h.takes t ∙ ap (λ z. z ++ told b) long.split
      ∙ append_assoc long.front long.more (told b))
      ∙ too_long_a_line_is_over read most long.front (long.more ++ told b) long.one long.long

  -- at the end nothing is heard
  pub nothing_is_heard_at_the_end : (most : ℕ) → ReadsNext read p a Finished p' b
      → heard read most (lines_of (p ++ told a)) ≡ []
  nothing_is_heard_at_the_end most h =
      ap (λ z. heard read most (lines_of z))
      (takes_from_the_rest h.takes t ∙ ap (λ z. z ++ told b) h.cuts.0 ∙ h.end refl t)
      ∙ ap (heard read most) no_bytes_have_no_lines ∙ no_lines_are_heard read most

hands_out_as : {a b : Option (List ℕ)} {xs ys : List ℕ} → xs ≡ ys → HandsOut a xs b → HandsOut a ys b
hands_out_as {a = a} {b = b} e h = subst (λ z. HandsOut a z b) e h

-- ---- from line to line

-- A loop has heard these of the input's lines, of which there may be `total`, and may hear `most` more.
pub record Hears {A : Type 0} (read : List ℕ → A) (total : ℕ) (input : Option (List ℕ)) (so_far : List (Heard A))
    (most : ℕ) (pending : List ℕ) (left : Option (List ℕ)) : Type 0 where
  pub used : List ℕ
  pub handed : HandsOut input (used ++ pending) left
  pub lines : (rest : List ℕ) → heard read total (lines_of (used ++ rest)) ≡ so_far ++ heard read most (lines_of rest)
  pub whole : (rest : List ℕ) → whole_lines (used ++ rest) ≡ used ++ whole_lines rest

-- the whole lines among the bytes that were taken are those that were heard
pub record HeardWhole {A : Type 0} (read : List ℕ → A) (total : ℕ) (input : Option (List ℕ)) (so_far : List (Heard A))
    (left : Option (List ℕ)) : Type 0 where
  pub taken : List ℕ
  pub handed : HandsOut input taken left
  pub is : heard read total (lines_of (whole_lines taken)) ≡ so_far

regroup : (used line rest : List ℕ) → (used ++ (line ++ lf ∷ [])) ++ rest ≡ used ++ (line ++ lf ∷ rest)
regroup used line rest = simp append_assoc

module _ {A : Type 0} (read : List ℕ → A) (total : ℕ) (input : Option (List ℕ)) where
  pub hears_nothing_yet : {pending : List ℕ} → pending ≡ [] → Hears read total input [] total pending input
  hears_nothing_yet e = record {
    used = [];
    handed = record { was = λ t. t; now = λ t. sym (at_the_start_all_is_to_be_read input e) };
    lines = λ rest. refl;
    whole = λ rest. refl;
  }

module _ {A : Type 0} {read : List ℕ → A} {total : ℕ} {input : Option (List ℕ)} {so_far : List (Heard A)} {most : ℕ}
    {p : List ℕ} {a : Option (List ℕ)}
    (h : Hears read total input so_far most p a) where
  -- all that is heard of the input
  pub hears_in_all : IsSome a
      → heard read total (lines_of (told input)) ≡ so_far ++ heard read most (lines_of (p ++ told a))
  hears_in_all t = ap (λ z. heard read total (lines_of z)) (h.handed.now t ∙ append_assoc h.used p (told a))
      ∙ h.lines (p ++ told a)

  -- a line that isn't the last, where one more may be heard
  pub hears_one_more : {meaning : A} {p' : List ℕ} {b : Option (List ℕ)} (most' : ℕ) → most ≡ suc most'
      → ReadsNext read p a (Line meaning false) p' b
      → Hears read total input (so_far ++ Read meaning ∷ []) most' p' b
  hears_one_more {meaning = meaning} {p' = p'} {b = b} most' turn r =
      let line = r.cuts.line in
      let bytes : h.used ++ (p ++ r.takes.taken) ≡ (h.used ++ (line ++ lf ∷ [])) ++ p'
      = ap (λ z. h.used ++ z) (sym r.takes.are ∙ r.cuts.split) ∙ sym (regroup h.used line p') in
      record {
        used = h.used ++ (line ++ lf ∷ []);
        handed = hands_out_as (append_assoc h.used p r.takes.taken ∙ bytes) (hands_out_then h.handed r.takes.handed);
        lines = λ rest.
            ap (λ z. heard read total (lines_of z)) (regroup h.used line rest) ∙ h.lines (line ++ lf ∷ rest)
            ∙ ap (λ k. so_far ++ heard read k (lines_of (line ++ lf ∷ rest))) turn
            ∙ ap (λ z. so_far ++ heard read (suc most') z) (a_line_goes_up_to_lf line rest r.cuts.one)
            ∙ ap (λ z. so_far ++ z)
            (a_line_is_heard read most' line (lines_of rest) r.cuts.fits
            ∙ ap (λ z. Read z ∷ heard read most' (lines_of rest)) (sym r.cuts.is))
            ∙ sym (append_assoc so_far (Read meaning ∷ []) (heard read most' (lines_of rest)));
        whole = λ rest.
            ap whole_lines (regroup h.used line rest) ∙ h.whole (line ++ lf ∷ rest)
            ∙ ap (λ z. h.used ++ z) (a_line_and_its_lf_are_whole line rest)
            ∙ sym (regroup h.used line (whole_lines rest));
      }

  -- after a failed read
  pub hears_whole_lines : {p' : List ℕ} {b : Option (List ℕ)} → Takes p a p' b × HasNoLf p'
      → HeardWhole read total input so_far b
  hears_whole_lines {p' = p'} r = record {
    taken = h.used ++ p';
    handed = hands_out_as (append_assoc h.used p r.0.taken ∙ ap (λ z. h.used ++ z) (sym r.0.are))
        (hands_out_then h.handed r.0.handed);
    is = ap (λ z. heard read total (lines_of z))
        (h.whole p' ∙ ap (λ z. h.used ++ z) (without_lf_no_line_is_whole p' r.1))
        ∙ h.lines [] ∙ ap (λ z. so_far ++ heard read most z) no_bytes_have_no_lines
        ∙ ap (λ z. so_far ++ z) (no_lines_are_heard read most) ∙ append-nil so_far;
  }
