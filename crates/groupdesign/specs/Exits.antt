-- The exit status of the program: of a run, and where the words of the command line aren't there.
use Rattle.std.specs.Prelude.{◌≡◌, ℕ, List}
use Rattle.gd_effects.specs.Outside.{Outside}
use Rattle.gd_outside.specs.Statuses.{status_number}
use Rattle.gd_outside.specs.declared.status.Status.{Status}
use Rattle.gd_outside.specs.declared.status.Status.TheVariants.{NoMemory}
use Rattle.gd_program.specs.Headline.{Headline}
use Rattle.groupdesign.specs.declared.words.TheConstants.{NO_WORDS}
use Rattle.groupdesign.specs.declared.words.WordsFault.{WordsFault}
use Rattle.groupdesign.specs.declared.words.WordsFault.TheVariants.{Memory, Call}

-- the number is that of the status of a run of these words, which has the headline's sentences
pub record Exits (words : List (List ℕ)) (number : ℕ) (before after : Outside) : Type 0 where
  pub status : Status
  pub is : number ≡ status_number status
  pub headline :
      Headline (record { words = words; status = status; before = before; after = after })

abbrev pub words_status : WordsFault → ℕ
words_status Memory = status_number NoMemory
words_status Call = NO_WORDS
