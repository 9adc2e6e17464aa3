-- The newest note is kept: of each list of puts, by one put more.
use Rattle.std.proofs.Common.{◌≡◌, ◌≢◌, ◌∙◌, ℕ, ◌-◌, ◌<◌, ◌≤◌, List, [], ◌∷◌, ◌++◌, All, length, nat_lt, inl, inr, ap}
use Rattle.std.proofs.Common.{sym, subst, refl, arith}
use Rattle.std.specs.List.{fold}
use Rattle.std.proofs.lemmas.Bool.{cases_eq, cond_both}
use Rattle.std.proofs.lemmas.Bool.Decides.{nat_tests}
use Rattle.std.proofs.lemmas.List.{length-set, get_or-replicate, get_or-set_same, get_or-set_other, append_assoc}
use Rattle.std.proofs.lemmas.List.{append-nil}
use Rattle.std.proofs.lemmas.List.Elements.{All-nil, All-cons, All-append, All-push, All-weaker, All-head, All-tail}
use Rattle.std.proofs.lemmas.List.Elements.{All-same}
use Rattle.gd_base.specs.declared.note.Note.{Note}
use Rattle.gd_base.specs.Notes.{no_note, newer}
use Rattle.gd_base.specs.Sites.{IsSite}
use Rattle.gd_base.specs.declared.ranges.TheConstants.{SITES}
use Rattle.gd_aware.specs.Notes.{Put, no_notes, note_of, noted, notes_after, IsNewest}

-- of the notes that were put for a site
abbrev Of : ℕ → (ℕ → Type 0) → Put → Type 0
Of site P p = p.site ≡ site → P p.note.number

abbrev Zero : ℕ → Type 0
Zero n = n ≡ 0

abbrev Below : ℕ → ℕ → Type 0
Below m n = n < m

abbrev UpTo : ℕ → ℕ → Type 0
UpTo m n = n ≤ m

-- none of the notes put for the site is above the kept one
up_to : (puts : List Put) (site : ℕ) (note : Note) → IsNewest puts site note → All (Of site (UpTo note.number)) puts
up_to puts site note (inl (is_none, none))
    = All-weaker (Of site Zero) (Of site (UpTo note.number))
    (λ (p : Put) (h : Of site Zero p) (e : p.site ≡ site). omega (arith, h e)) puts none
up_to puts site note (inr g) =
    All-same (Of site (UpTo note.number)) puts _ g.there
    (All-append (Of site (UpTo note.number)) g.before _
    (All-weaker (Of site (Below note.number)) (Of site (UpTo note.number))
    (λ (p : Put) (h : Of site (Below note.number) p) (e : p.site ≡ site). omega (arith, h e)) g.before g.lower)
    (All-cons (Of site (UpTo note.number)) _ g.after (λ e. omega arith) g.no_greater))

-- a put that isn't above the kept one, or is for another site
pass : (puts : List Put) (p : Put) (site : ℕ) (note : Note) → (p.site ≡ site → p.note.number ≤ note.number)
    → IsNewest puts site note → IsNewest (puts ++ p ∷ []) site note
pass puts p site note low (inl (is_none, none))
    = inl (
      is_none,
      All-push (Of site Zero) puts p none
          (λ e. omega (arith, low e, ap (λ (n : Note). n.number) is_none)),
    )
pass puts p site note low (inr g) = inr (record {
  before = g.before;
  after = g.after ++ p ∷ [];
  there = ap (λ ps. ps ++ p ∷ []) g.there ∙ append_assoc g.before _ (p ∷ []);
  some = g.some;
  lower = g.lower;
  no_greater = All-push (Of site (UpTo note.number)) g.after p g.no_greater low;
})

-- a put for the site that is above the kept one
take_over : (puts : List Put) (site : ℕ) (old note : Note) → old.number < note.number → IsNewest puts site old
    → IsNewest (puts ++ (record { site = site; note = note }) ∷ []) site note
take_over puts site old note above h = inr (record {
  before = puts;
  after = [];
  there = refl;
  some = omega (arith, above);
  lower = All-weaker (Of site (UpTo old.number)) (Of site (Below note.number))
      (λ (p : Put) (h : Of site (UpTo old.number) p) (e : p.site ≡ site). omega (arith, h e, above)) puts
      (up_to puts site old h);
  no_greater = All-nil (Of site (UpTo note.number));
})

put_newer : (puts : List Put) (site : ℕ) (old note : Note) → IsNewest puts site old
    → IsNewest (puts ++ (record { site = site; note = note }) ∷ []) site (newer old note)
put_newer puts site old note h =
    cond_both (nat_lt old.number note.number) note old
    (IsNewest (puts ++ (record { site = site; note = note }) ∷ []) site)
    (λ above. take_over puts site old note (grind (arith, nat_tests, above)) h)
    (λ low. pass puts (record { site = site; note = note }) site old (λ e. grind (arith, nat_tests, low)) h)

-- the note of a site once one was put for it, and once one was put for another
same_site : (notes : List Note) (site : ℕ) (note : Note) → length notes ≡ SITES → IsSite site
    → note_of (noted notes site note) site ≡ newer (note_of notes site) note
same_site notes site note len is = get_or-set_same notes (site - 1) _ no_note (omega (arith, len, is.0, is.1))

other_site : (notes : List Note) (put site : ℕ) (note : Note) → IsSite put → IsSite site → put ≢ site
    → note_of (noted notes put note) site ≡ note_of notes site
other_site notes put site note is_put is differ
    = get_or-set_other notes (put - 1) (site - 1) _ no_note (λ e. differ (omega (arith, is_put.0, is.0, e)))

abbrev Holds : List Put → Put → List Note → ℕ → Type 0
Holds puts p notes site = IsNewest (puts ++ p ∷ []) site (note_of (noted notes p.site p.note) site)

here : (puts : List Put) (p : Put) (notes : List Note) (site : ℕ) → length notes ≡ SITES → IsSite site → p.site ≡ site
    → IsNewest puts site (note_of notes site) → Holds puts p notes site
here puts p notes site len is e h =
    subst (λ s. IsSite s → IsNewest puts s (note_of notes s) → Holds puts p notes s) e
    (λ is_put at. subst (IsNewest (puts ++ p ∷ []) p.site) (sym (same_site notes p.site p.note len is_put))
    (put_newer puts p.site (note_of notes p.site) p.note at)) is h

one_more : (puts : List Put) (p : Put) (notes : List Note) (site : ℕ) → length notes ≡ SITES → IsSite p.site
    → IsSite site → IsNewest puts site (note_of notes site) → Holds puts p notes site
one_more puts p notes site len is_put is h =
    elim (cases_eq p.site site) [
      | inl e ↦ here puts p notes site len is e h
      | inr differ ↦
          subst (IsNewest (puts ++ p ∷ []) site) (sym (other_site notes p.site site p.note is_put is differ))
          (pass puts p site (note_of notes site) (λ e. absurd (differ e)) h)
    ]

abbrev Step : List Note → Put → List Note
Step notes p = noted notes p.site p.note

pub walk : (puts before : List Put) (notes : List Note) → All (λ p. IsSite p.site) puts → length notes ≡ SITES
    → ((site : ℕ) → IsSite site → IsNewest before site (note_of notes site))
    → (site : ℕ) → IsSite site → IsNewest (before ++ puts) site (note_of (fold Step notes puts) site)
walk [] before notes sites len h site is = rw (append-nil before) (h site is)
walk (p ∷ ps) before notes sites len h site is =
    subst (λ l. IsNewest l site (note_of (fold Step notes (p ∷ ps)) site)) (append_assoc before (p ∷ []) ps)
    (walk ps (before ++ p ∷ []) (Step notes p) (All-tail (λ p. IsSite p.site) p ps sites) (length-set notes _ _ ∙ len)
    (λ s is_s. one_more before p notes s len (All-head (λ p. IsSite p.site) p ps sites) is_s (h s is_s)) site is)

none_of : (site : ℕ) → IsSite site → note_of no_notes site ≡ no_note
none_of site is = get_or-replicate SITES (site - 1) no_note no_note (omega (arith, is.0, is.1))

pub newest : (puts : List Put) (site : ℕ) → All (λ p. IsSite p.site) puts → IsSite site
    → IsNewest puts site (note_of (notes_after puts) site)
newest puts site sites is
    = walk puts [] no_notes sites refl (λ s is_s. inl (none_of s is_s, All-nil (λ p. p.site ≡ s → p.note.number ≡ 0)))
    site is
