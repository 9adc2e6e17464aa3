-- So many things that are read off a source, one behind the other.
use Rattle.std.proofs.Common.{◌≡◌, ℕ, zero, suc, ◌+◌, ◌-◌, ◌<◌, ◌≤◌, List, [], ◌∷◌, ◌++◌, Ok, Err, refl, sym, ap, ◌∙◌}
use Rattle.std.proofs.Common.{append_assoc, arith}
use Rattle.std.proofs.lemmas.List.{append-nil}
use Rattle.gd_base.specs.Results.{◌>>=◌}
use Rattle.gd_grammar.specs.Reading.{Reads, many_at}
use Rattle.gd_outside.specs.Seen.{SeenSource}
use Rattle.gd_snapshots.specs.SnapshotBytes.{Views, in_view}
use Rattle.gd_handover.specs.Parts.{Part}
use Rattle.gd_handover.specs.declared.fault.SnapshotFault.{SnapshotFault}
use Rattle.gd_handover.specs.declared.fault.SnapshotFault.TheVariants.{NoMemory}
use Rattle.gd_handover.specs.declared.reader.Reader.{Reader}
use Rattle.gd_handover.proofs.PartLemmas.{Standing, standing-start, standing-more, standing-stops, standing-end}
use Rattle.gd_handover.proofs.PartLemmas.{standing-memory}

abbrev reads_of : {A : Type 0} → List A × List ℕ → Views (List A)
reads_of x = Ok x

-- those so far, in front of the others
abbrev behind : {A : Type 0} → List A → List A × List ℕ → Views (List A)
behind so_far xs = Ok (so_far ++ xs.0, xs.1)

-- those so far, and so many more behind the last one
abbrev pub going : {A S : Type 0} → (S → List ℕ → Views A) → (A → S) → List A → ℕ → S → List ℕ → Views (List A)
going read kept so_far more last bytes = many_at read kept more last bytes >>= behind so_far

going-start : {A : Type 0} (r : Views (List A)) → r ≡ (r >>= behind [])
going-start (Ok xs) = refl
going-start (Err f) = refl

going-one : {A : Type 0} (so_far : List A) (x : A) (r : Views (List A))
    → ((r >>= behind (x ∷ [])) >>= behind so_far) ≡ (r >>= behind (so_far ++ x ∷ []))
going-one so_far x (Ok xs) = ap (λ (l : List _). reads_of (l, xs.1)) (sym (append_assoc so_far (x ∷ []) xs.0))
going-one so_far x (Err f) = refl

going-step : {A S : Type 0} (read : S → List ℕ → Views A) (kept : A → S) (so_far : List A) (more : ℕ) (r : Views A)
    → ((r >>= λ x. many_at read kept more (kept x.0) x.1 >>= behind (x.0 ∷ [])) >>= behind so_far)
    ≡ (r >>= λ x. going read kept (so_far ++ x.0 ∷ []) more (kept x.0) x.1)
going-step read kept so_far more (Ok x) = going-one so_far x.0 (many_at read kept more (kept x.0) x.1)
going-step read kept so_far more (Err f) = refl

going-next : {A S : Type 0} (read : S → List ℕ → Views A) (kept : A → S) (so_far : List A) (more : ℕ) (last : S)
    (bytes : List ℕ)
    → going read kept so_far (suc more) last bytes
    ≡ (read last bytes >>= λ x. going read kept (so_far ++ x.0 ∷ []) more (kept x.0) x.1)
unfolding many_at
going-next read kept so_far more last bytes = going-step read kept so_far more (read last bytes)

going-none : {A S : Type 0} (read : S → List ℕ → Views A) (kept : A → S) (so_far : List A) (last : S) (bytes : List ℕ)
    → going read kept so_far 0 last bytes ≡ Ok (so_far, bytes)
unfolding many_at
going-none read kept so_far last bytes = ap (λ (l : List _). reads_of (l, bytes)) (append-nil so_far)

-- i of n were read
pub record Looping {A S : Type 0} (read : S → List ℕ → Views A) (kept : A → S) (whole : List ℕ → Views (List A))
    (n i : ℕ) (last : S) (so_far : List A) (old now : Reader) (before here : SeenSource) : Type 0 where
  pub standing : Standing whole (going read kept so_far (n - i) last) old now before here

pub looping-start : {A S : Type 0} (read : S → List ℕ → Views A) (kept : A → S) (whole : List ℕ → Views (List A))
    (n : ℕ) (first : S) (here : Reader) (source : SeenSource)
    → ((bytes : List ℕ) → whole bytes ≡ many_at read kept n first bytes)
    → Looping read kept whole n 0 first [] here here source source
looping-start read kept whole n first here source is =
    let all : n - 0 ≡ n = omega arith in
    record {
      standing = standing-start whole (going read kept [] (n - 0) first) here source
          (λ bytes. is bytes ∙ rw all (going-start (many_at read kept n first bytes)));
    }

next-is : {A S : Type 0} (read : S → List ℕ → Views A) (kept : A → S) (n i : ℕ) → i < n
    → (last : S) (so_far : List A) (bytes : List ℕ)
    → going read kept so_far (n - i) last bytes
    ≡ (read last bytes >>= λ x. going read kept (so_far ++ x.0 ∷ []) (n - (i + 1)) (kept x.0) x.1)
next-is read kept n i lt last so_far bytes =
    let one : n - i ≡ suc (n - (i + 1)) = omega arith in
    rw one (going-next read kept so_far (n - (i + 1)) last bytes)

module _ {A S : Type 0} {read : S → List ℕ → Views A} {kept : A → S} {whole : List ℕ → Views (List A)} (n i : ℕ)
    (lt : i < n) where
  pub looping-more : {last : S} {so_far : List A} {r s t : Reader} {a b c : SeenSource} (x : A)
      → Looping read kept whole n i last so_far r s a b → Part (read last) (Ok x) s t b c
      → Looping read kept whole n (i + 1) (kept x) (so_far ++ x ∷ []) r t a c
  looping-more {last} {so_far} x h p
      = record {
        standing = standing-more (read last) (λ x. going read kept (so_far ++ x ∷ []) (n - (i + 1)) (kept x))
            (next-is read kept n i lt last so_far) x h.standing p;
      }

  pub looping-stops : {last : S} {so_far : List A} {r s t : Reader} {a b c : SeenSource} (e : SnapshotFault)
      → Looping read kept whole n i last so_far r s a b → Part (read last) (Err e) s t b c → Part whole (Err e) r t a c
  looping-stops {last} {so_far} e h p
      = standing-stops (read last) (λ x. going read kept (so_far ++ x ∷ []) (n - (i + 1)) (kept x))
      (next-is read kept n i lt last so_far) e h.standing p

  -- memory ran out behind one of them
  pub looping-memory : {last : S} {so_far : List A} {r s t : Reader} {a b c : SeenSource} (x : A)
      → Looping read kept whole n i last so_far r s a b → Part (read last) (Ok x) s t b c
      → Part whole (Err NoMemory) r t a c
  looping-memory x h p = standing-memory (looping-more x h p).standing

pub looping-end : {A S : Type 0} {read : S → List ℕ → Views A} {kept : A → S} {whole : List ℕ → Views (List A)}
    {last : S} {so_far : List A} {r s : Reader} {a b : SeenSource} (n i : ℕ) → n ≤ i
    → Looping read kept whole n i last so_far r s a b → Part whole (Ok so_far) r s a b
looping-end {read = read} {kept = kept} {last = last} {so_far = so_far} n i le h =
    let none : n - i ≡ 0 = omega arith in
    standing-end so_far (λ bytes. rw none (going-none read kept so_far last bytes)) h.standing

-- ---- things whose faults are those of fields

pub view-step : {A B : Type 0} (r : Reads A) (f : A × List ℕ → Reads B) (g : A × List ℕ → Views B)
    → ((x : A × List ℕ) → in_view (f x) ≡ g x) → in_view (r >>= f) ≡ (in_view r >>= g)
view-step (Ok x) f g same = same x
view-step (Err d) f g same = refl

pub in_view-many : {A S : Type 0} (read : S → List ℕ → Reads A) (kept : A → S) (n : ℕ) (last : S) (bytes : List ℕ)
    → in_view (many_at read kept n last bytes) ≡ many_at (λ s b. in_view (read s b)) kept n last bytes
unfolding many_at
in_view-many read kept zero last bytes = refl
in_view-many read kept (suc n) last bytes =
    view-step (read last bytes) _ _
    (λ x. view-step (many_at read kept n (kept x.0) x.1) _ (λ xs. Ok (x.0 ∷ xs.0, xs.1)) (λ xs. refl)
    ∙ ap (λ (r : Views (List _)). r >>= behind (x.0 ∷ [])) (in_view-many read kept n (kept x.0) x.1))
