-- The newest note of each site, as a list of notes in the order of the sites. Of the notes put for a site, the one of
-- the greatest number is kept, the first of equals.
use Rattle.std.specs.Prelude.{◌≡◌, ◌⊎◌, ℕ, ◌-◌, ◌<◌, ◌≤◌, List, ◌∷◌, ◌++◌, All, replicate, set, get_or}
use Rattle.std.specs.List.{fold}
use Rattle.gd_base.specs.Notes.{no_note, newer}
use Rattle.gd_base.specs.declared.note.Note.{Note}
use Rattle.gd_base.specs.declared.ranges.TheConstants.{SITES}

abbrev pub no_notes : List Note
no_notes = replicate SITES no_note

-- the note of a site; sites count from 1
abbrev pub note_of : List Note → ℕ → Note
note_of notes site = get_or notes (site - 1) no_note

-- the notes once a note was put for a site; no other site's changes
abbrev pub noted : List Note → ℕ → Note → List Note
noted notes site note = set notes (site - 1) (newer (note_of notes site) note)

-- a note that is put for a site
pub record Put : Type 0 where
  pub site : ℕ
  pub note : Note

-- the notes after these puts, one after the other
abbrev pub notes_after : List Put → List Note
notes_after puts = fold (λ notes p. noted notes p.site p.note) no_notes puts

-- no note above number 0 was put for the site
abbrev pub HasNone : List Put → ℕ → Type 0
HasNone puts site = All (λ p. p.site ≡ site → p.note.number ≡ 0) puts

-- the note was put for the site; those put for it before have lower numbers, and those put for it later no greater ones
pub record IsFirstGreatest (puts : List Put) (site : ℕ) (note : Note) : Type 0 where
  pub before : List Put
  pub after : List Put
  pub there : puts ≡ before ++ (record { site = site; note = note }) ∷ after
  pub some : 0 < note.number
  pub lower : All (λ p. p.site ≡ site → p.note.number < note.number) before
  pub no_greater : All (λ p. p.site ≡ site → p.note.number ≤ note.number) after

-- the note that is to be kept of a site after these puts
abbrev pub IsNewest : List Put → ℕ → Note → Type 0
IsNewest puts site note = ((note ≡ no_note) × HasNone puts site) ⊎ IsFirstGreatest puts site note
