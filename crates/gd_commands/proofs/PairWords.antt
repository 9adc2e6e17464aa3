-- `clap` takes the plain forms of `rehearse` and `churn`, word by word.
use Rattle.std.proofs.Common.{◌≡◌, ◌∙◌, ap, ap₂, List, [], ◌∷◌, codes, refl}
use Rattle.clap.specs.Words.{App, Row, Text, fault_of, matches_of}
use Rattle.clap.specs.Walk.{idle, nothing_held, option, walk_from}
use Rattle.clap.specs.Simple.{Shape, built}
use Rattle.clap.specs.Faults.{defaults_fault}
use Rattle.clap.proofs.OnLiterals.{clap_on_literals}
use Rattle.gd_commands.specs.Churn.{churn_form}
use Rattle.gd_commands.specs.Forms.{app}
use Rattle.gd_commands.specs.Plain.{IsPlainWord}
use Rattle.gd_commands.specs.Rehearse.{rehearse_form}
use Rattle.gd_commands.proofs.PlainWords.{Turns, Walks, at, holding, refused_by, row, rows_at, turns_plain, walks_none}
use Rattle.gd_commands.proofs.PlainWords.{walks_on}

-- ---- rehearse

abbrev rehearse_app : App
rehearse_app = app rehearse_form

abbrev rehearse_top : Shape
rehearse_top = (built rehearse_app).top

sites_turn : Turns rehearse_top (walk_from nothing_held) (codes "--sites")
    (at (holding [] (codes "sites") []) (option (codes "sites")) 1)
unfolding clap_on_literals
sites_turn = (refl, refl)

rehearse_walk : (n : Text) → IsPlainWord n
    → Walks rehearse_top (walk_from nothing_held) (codes "--sites" ∷ n ∷ [])
    (at (holding [] (codes "sites") (n ∷ [])) idle 1)
rehearse_walk n plain =
    walks_on _ _ _ _ _ _ sites_turn
    (walks_on _ _ _ _ _ _
    (turns_plain rehearse_top (holding [] (codes "sites") []) (option (codes "sites")) 1 n _ plain refl refl)
    (walks_none rehearse_top (at (holding [] (codes "sites") (n ∷ [])) idle 1)))

rehearse_refused : (n : Text) → refused_by rehearse_app [] (at (holding [] (codes "sites") (n ∷ [])) idle 1) ≡ []
unfolding defaults_fault
rehearse_refused n = refl

pub rehearse_taken : (n : Text) → IsPlainWord n → fault_of rehearse_app (codes "--sites" ∷ n ∷ []) ≡ []
rehearse_taken n plain =
    let w = rehearse_walk n plain in
    ap₂ (refused_by rehearse_app) w.passes w.ends ∙ rehearse_refused n

pub rehearse_rows : (n : Text) → IsPlainWord n
    → matches_of rehearse_app (codes "--sites" ∷ n ∷ []) ≡ row (codes "sites") (n ∷ []) ∷ []
rehearse_rows n plain = ap (rows_at rehearse_app) (rehearse_walk n plain).ends

-- ---- churn

abbrev churn_app : App
churn_app = app churn_form

abbrev churn_top : Shape
churn_top = (built churn_app).top

abbrev churn_words : Text → Text → List Text
churn_words n m = codes "--seed" ∷ n ∷ codes "--steps" ∷ m ∷ []

abbrev seed_row : Text → List Row
seed_row n = row (codes "seed") (n ∷ []) ∷ []

seed_turn : Turns churn_top (walk_from nothing_held) (codes "--seed")
    (at (holding [] (codes "seed") []) (option (codes "seed")) 1)
unfolding clap_on_literals
seed_turn = (refl, refl)

steps_turn : (n : Text) → Turns churn_top (at (holding [] (codes "seed") (n ∷ [])) idle 1) (codes "--steps")
    (at (holding (seed_row n) (codes "steps") []) (option (codes "steps")) 1)
unfolding clap_on_literals
steps_turn n = (refl, refl)

churn_walk : (n m : Text) → IsPlainWord n → IsPlainWord m
    → Walks churn_top (walk_from nothing_held) (churn_words n m)
    (at (holding (seed_row n) (codes "steps") (m ∷ [])) idle 1)
churn_walk n m pn pm =
    walks_on _ _ _ _ _ _ seed_turn
    (walks_on _ _ _ _ _ _
    (turns_plain churn_top (holding [] (codes "seed") []) (option (codes "seed")) 1 n _ pn refl refl)
    (walks_on _ _ _ _ _ _ (steps_turn n)
    (walks_on _ _ _ _ _ _
    (turns_plain churn_top (holding (seed_row n) (codes "steps") []) (option (codes "steps")) 1 m _ pm refl refl)
    (walks_none churn_top (at (holding (seed_row n) (codes "steps") (m ∷ [])) idle 1)))))

churn_refused : (n m : Text) → refused_by churn_app [] (at (holding (seed_row n) (codes "steps") (m ∷ [])) idle 1) ≡ []
unfolding defaults_fault
churn_refused n m = refl

pub churn_taken : (n m : Text) → IsPlainWord n → IsPlainWord m → fault_of churn_app (churn_words n m) ≡ []
churn_taken n m pn pm =
    let w = churn_walk n m pn pm in
    ap₂ (refused_by churn_app) w.passes w.ends ∙ churn_refused n m

pub churn_rows : (n m : Text) → IsPlainWord n → IsPlainWord m
    → matches_of churn_app (churn_words n m) ≡ row (codes "seed") (n ∷ []) ∷ row (codes "steps") (m ∷ []) ∷ []
churn_rows n m pn pm = ap (rows_at churn_app) (churn_walk n m pn pm).ends
