-- A journal in memory that was made of contents and a name holds them.
use Rattle.std.proofs.Common.{◌≡◌, ℕ, ◌+◌, ◌≤◌, true, false, nat_lt, List, [], ◌∷◌, length, refl, ap, ◌∙◌, arith}
use Rattle.std.proofs.lemmas.Bool.Decides.{nat_tests}
use Rattle.gd_outside.specs.declared.memory.mark.Kind.TheVariants.{Created, Put, Synced}
use Rattle.gd_outside.specs.Journals.{put_at}
use Rattle.gd_outside.specs.Memory.{Holds, KeptJournal, journal_of, kept_contents, kept_name, new_journal, with_call}
use Rattle.gd_outside.specs.Memory.{with_name, with_piece}
use Rattle.gd_outside.specs.Records.{DiskCall, disk_of, done, fits_record}
use Rattle.gd_outside.proofs.JournalLemmas.{put_at-end}

-- a journal that isn't past its room
abbrev kept : ℕ → List ℕ → List DiskCall → KeptJournal
kept room name calls = record { name = name; calls = calls; room = room; is_past = false }

abbrev created : List DiskCall
created = done Created 0 [] ∷ []

abbrev written : List ℕ → List DiskCall
written contents = done Created 0 [] ∷ done Put 0 contents ∷ []

abbrev synced : List ℕ → List DiskCall
synced contents = done Created 0 [] ∷ done Put 0 contents ∷ done Synced 0 [] ∷ []

-- ---- each of the three calls fits

create-fits : (room : ℕ) → fits_record room [] 0 ≡ true
create-fits room = grind (arith, nat_tests)

name-fits : (room : ℕ) (name : List ℕ) → length name ≤ room → nat_lt room (length name) ≡ false
name-fits room name le = grind (arith, nat_tests)

write-fits : (room n : ℕ) → n ≤ room → fits_record room created n ≡ true
write-fits room n le = grind (arith, nat_tests)

contents-fit : (room : ℕ) (name contents : List ℕ) → length name + length contents ≤ room
    → nat_lt room (length name + 0 + length contents) ≡ false
contents-fit room name contents le = grind (arith, nat_tests)

sync-fits : (room : ℕ) (contents : List ℕ) → length contents ≤ room → fits_record room (written contents) 0 ≡ true
sync-fits room contents le = grind (arith, nat_tests)

-- ---- what it keeps

by-name : (room : ℕ) (name : List ℕ) → length name ≤ room → with_name (new_journal room) name ≡ kept room name created
by-name room name le = rw (name-fits room name le, create-fits room) refl

by-write : (room : ℕ) (name contents : List ℕ) → length name + length contents ≤ room
    → with_piece (kept room name created) 0 contents ≡ kept room name (written contents)
by-write room name contents le
    = rw (contents-fit room name contents le, write-fits room (length contents) (omega arith)) refl

by-sync : (room : ℕ) (name contents : List ℕ) → length contents ≤ room
    → with_call (kept room name (written contents)) (done Synced 0 []) ≡ kept room name (synced contents)
by-sync room name contents le = rw (sync-fits room contents le) refl

kept-made : (room : ℕ) (name contents : List ℕ) → length name + length contents ≤ room
    → journal_of room name contents ≡ kept room name (synced contents)
kept-made room name contents le =
    ap (λ (k : KeptJournal). with_call (with_piece k 0 contents) (done Synced 0 [])) (by-name room name (omega arith))
    ∙ ap (λ (k : KeptJournal). with_call k (done Synced 0 [])) (by-write room name contents le)
    ∙ by-sync room name contents (omega arith)

put-first : (contents : List ℕ) → put_at [] 0 contents ≡ contents
put-first contents = put_at-end [] contents 0 refl

pub holds-made : (journal : KeptJournal) (room faults : ℕ) (name contents : List ℕ)
    → journal ≡ journal_of room name contents → length name + length contents ≤ room
    → Holds (record {
      contents = kept_contents journal;
      name = kept_name journal;
      disk = disk_of journal.calls;
      faults
          = faults;
    }) name contents
holds-made journal room faults name contents e le =
    rw (e ∙ kept-made room name contents le, put-first contents) record { stands = refl; named = refl; outlasts = refl }
