-- A site and a command behind it, whose name was looked up before the site was judged.
use Rattle.std.proofs.Common.{◌≡◌, ℕ, ◌-◌, List, Ok, Err, refl, ap, subst, subst₂}
use Rattle.std.specs.Prelude.{Result}
use Rattle.gd_base.specs.Results.{Gives}
use Rattle.gd_base.specs.declared.refusal.LineFault.{LineFault}
use Rattle.gd_lines.specs.declared.command.Command.{Command}
use Rattle.gd_lines.specs.declared.command.ScriptLine.TheVariants.{At}
use Rattle.gd_lines.specs.LineWords.{word, behind}
use Rattle.gd_lines.specs.Lines.{asked_rows}
use Rattle.gd_lines.specs.Reading.{Reader, then_at}
use Rattle.gd_lines.specs.Rows.{by_name}
use Rattle.gd_lines.specs.ScriptLines.{at_words, site_at, site_words}
use Rattle.gd_words.specs.Asked.{Asks}

-- what the name behind the site asked for, where its words begin at `here` and end before `rest`
abbrev pub SiteAsks : ℕ → List ℕ → List ℕ → List ℕ → Result (Result Command LineFault) LineFault → Type 0
SiteAsks n name here rest asked = Asks (λ c. (c, rest)) asked (by_name asked_rows name (n - 2)) here

unasked : (rest : List ℕ) (given : Result (Reader Command) LineFault) (why : LineFault) (line here : List ℕ)
    → Asks {X = Command} (λ c. (c, rest)) (Err why) given here → site_words given line ≡ Err why
unasked rest (Ok words) why line here h = absurd h
unasked rest (Err other) why line here h = ap Err h

pub at_unasked : (n : ℕ) (line name here rest : List ℕ) (why : LineFault) → name ≡ word (behind line)
    → SiteAsks n name here rest (Err why) → at_words n line ≡ Err why
unfolding at_words
at_unasked n line name here rest why e h =
    unasked rest (by_name asked_rows (word (behind line)) (n - 2)) why line here
    (subst (λ (t : List ℕ). SiteAsks n t here rest (Err why)) e h)

no_site : (rest : List ℕ) (given : Result (Reader Command) LineFault) (outcome : Result Command LineFault)
    (why : LineFault) (line here : List ℕ)
    → Asks (λ c. (c, rest)) (Ok outcome) given here → site_at line ≡ Err why → site_words given line ≡ Err why
unfolding then_at
no_site rest (Ok words) outcome why line here h e = rw e refl
no_site rest (Err other) outcome why line here h e = absurd h

pub at_no_site : (n : ℕ) (line name here rest : List ℕ) (outcome : Result Command LineFault) (why : LineFault)
    → name ≡ word (behind line)
    → SiteAsks n name here rest (Ok outcome) → site_at line ≡ Err why → at_words n line ≡ Err why
unfolding at_words
at_no_site n line name here rest outcome why e h site =
    no_site rest (by_name asked_rows (word (behind line)) (n - 2)) outcome why line here
    (subst (λ (t : List ℕ). SiteAsks n t here rest (Ok outcome)) e h) site

site_read : (rest : List ℕ) (given : Result (Reader Command) LineFault) (outcome : Result Command LineFault) (site : ℕ)
    (line : List ℕ)
    → Asks (λ c. (c, rest)) (Ok outcome) given (behind (behind line)) → site_at line ≡ Ok (site, behind line)
    → Gives (λ c. (At site c, rest)) outcome (site_words given line)
unfolding then_at
site_read rest (Ok words) (Ok c) site line h e = rw (e, h) refl
site_read rest (Ok words) (Err why) site line h e = rw (e, h) refl
site_read rest (Err other) outcome site line h e = absurd h

pub at_read : (n : ℕ) (line name here rest : List ℕ) (outcome : Result Command LineFault) (site : ℕ)
    → name ≡ word (behind line) → here ≡ behind (behind line)
    → SiteAsks n name here rest (Ok outcome) → site_at line ≡ Ok (site, behind line)
    → Gives (λ c. (At site c, rest)) outcome (at_words n line)
unfolding at_words
at_read n line name here rest outcome site e there h is =
    site_read rest (by_name asked_rows (word (behind line)) (n - 2)) outcome site line
    (subst₂ (λ (t l : List ℕ). SiteAsks n t l rest (Ok outcome)) e there h) is

pub at_fault : (n : ℕ) (line name here rest : List ℕ) (outcome : Result Command LineFault) (site : ℕ) (why : LineFault)
    → name ≡ word (behind line) → here ≡ behind (behind line)
    → SiteAsks n name here rest (Ok outcome) → site_at line ≡ Ok (site, behind line) → outcome ≡ Err why
    → at_words n line ≡ Err why
at_fault n line name here rest outcome site why e there h is was =
    at_read n line name here rest (Err why) site e there
    (subst (λ (o : Result Command LineFault). SiteAsks n name here rest (Ok o)) was h) is

pub at_done : (n : ℕ) (line name here rest : List ℕ) (outcome : Result Command LineFault) (site : ℕ) (command : Command)
    → name ≡ word (behind line) → here ≡ behind (behind line)
    → SiteAsks n name here rest (Ok outcome) → site_at line ≡ Ok (site, behind line) → outcome ≡ Ok command
    → at_words n line ≡ Ok (At site command, rest)
at_done n line name here rest outcome site command e there h is was =
    at_read n line name here rest (Ok command) site e there
    (subst (λ (o : Result Command LineFault). SiteAsks n name here rest (Ok o)) was h) is
