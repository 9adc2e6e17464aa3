-- What C is handed of numbers.
use Rattle.std.specs.Prelude.{◌≡◌, ℕ, Option, Some, None}
use Rattle.gd_base.specs.Stamps.{Stamp}
use Rattle.gd_base.specs.declared.note.Note.{Note}
use Rattle.gd_base.specs.declared.site_status.SiteStatus.{SiteStatus}
use Rattle.gd_embed.specs.declared.records.Noted.{Noted}
use Rattle.gd_embed.specs.declared.records.Standing.{Standing}

abbrev pub StatusIs : SiteStatus → Standing → Type 0
StatusIs status standing =
    (standing.held ≡ status.held) × (standing.kept ≡ status.kept) × (standing.line ≡ status.line)
    × (standing.clock ≡ status.clock) × (standing.parted ≡ status.parted)

-- the clock and the site of a focus, or twice 0 where there is none
abbrev pub FocusIs : Option Stamp → ℕ → ℕ → Type 0
FocusIs None clock site = (clock ≡ 0) × (site ≡ 0)
FocusIs (Some focus) clock site = (clock ≡ focus.clock) × (site ≡ focus.site)

abbrev pub NoteIs : Note → Noted → Type 0
NoteIs note noted = (noted.number ≡ note.number) × FocusIs note.focus noted.clock noted.site
