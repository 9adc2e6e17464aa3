-- A write that failed leaves the contents that are kept.
use Rattle.std.proofs.Common.{◌≡◌, ℕ, Bool, true, false, not, List, [], ◌∷◌, ◌++◌, length, refl, ap}
use Rattle.std.specs.Prelude.{IsSome}
use Rattle.std.proofs.lemmas.List.Sums.{fold_push}
use Rattle.gd_outside.specs.declared.memory.mark.Kind.TheVariants.{NotPut}
use Rattle.gd_outside.specs.Journals.{MayWrite}
use Rattle.gd_outside.specs.Records.{DiskCall, after_call, at_first, contents_of, done, fits_record}
use Rattle.gd_outside.specs.Memory.{KeptJournal, with_call, kept_contents}
use Rattle.gd_outside.specs.Told.{told}
use Rattle.gd_outside.proofs.JournalLemmas.{MayWrite-same}

not-put : (calls : List DiskCall) (pos : ℕ) (piece : List ℕ)
    → contents_of (calls ++ done NotPut pos piece ∷ []) ≡ contents_of calls
not-put calls pos piece = ap (λ s. s.contents) (fold_push after_call at_first calls (done NotPut pos piece))

lost-by : (k : KeptJournal) (pos : ℕ) (piece : List ℕ) (past full : Bool) → k.is_past ≡ past
    → not (fits_record k.room k.calls (length piece)) ≡ full
    → IsSome (kept_contents (with_call k (done NotPut pos piece)))
    → MayWrite (told (kept_contents k)) pos piece (told (kept_contents (with_call k (done NotPut pos piece))))
lost-by k pos piece true full p f some = let no = rw p at some in cc
lost-by k pos piece false true p f some = let no = rw (p, f) at some in cc
lost-by k pos piece false false p f some
    = rw (p, f, not-put k.calls pos piece) (MayWrite-same (contents_of k.calls) pos piece)

pub lost-torn : (k k' : KeptJournal) (pos : ℕ) (piece : List ℕ) → k' ≡ with_call k (done NotPut pos piece)
    → IsSome (kept_contents k') → MayWrite (told (kept_contents k)) pos piece (told (kept_contents k'))
lost-torn k k' pos piece e
    = rw e (lost-by k pos piece k.is_past (not (fits_record k.room k.calls (length piece))) refl refl)
