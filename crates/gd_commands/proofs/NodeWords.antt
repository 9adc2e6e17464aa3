-- `clap` takes the plain form of `node`, with its flag or without, word by word.
use Rattle.std.proofs.Common.{◌≡◌, ◌∙◌, ◌<◌, ◌≤◌, ℕ, Bool, true, false, refl, sym, ap, ap₂, arith, List, [], ◌∷◌, ◌++◌}
use Rattle.std.proofs.Common.{append_assoc, append-nil, subst, length, codes, le-ltb, nat_lt, ne_eqb, eqb, Some, None}
use Rattle.clap.specs.Words.{App, Row, Text, fault_of, matches_of}
use Rattle.clap.specs.Kinds.{or_else, range_kinds, values_kinds}
use Rattle.clap.specs.Lexer.{usize_max}
use Rattle.clap.specs.Walk.{Walk, idle, nothing_held, option, positional, walk_from}
use Rattle.clap.specs.Simple.{Shape, built}
use Rattle.clap.specs.Faults.{defaults_fault}
use Rattle.clap.specs.declared.builder.value_parser.ValueParser.TheVariants as parser
use Rattle.clap.specs.declared.parser.matches.ValueSource.TheVariants.{DefaultValue}
use Rattle.clap.proofs.OnLiterals.{clap_on_literals}
use Rattle.gd_commands.specs.Forms.{app}
use Rattle.gd_commands.specs.Node.{node_form}
use Rattle.gd_commands.specs.Plain.{ArePlainWords, IsPlainWord, member_words}
use Rattle.gd_commands.proofs.PlainWords.{Turns, Walks, at, holding, refused_by, row, rows_at, turns_plain, walks_none}
use Rattle.gd_commands.proofs.PlainWords.{walks_on}

abbrev node_app : App
node_app = app node_form

abbrev top : Shape
top = (built node_app).top

-- ---- what is read

abbrev flag_rows : Bool → List Row
flag_rows true = row (codes "resume") (codes "true" ∷ []) ∷ []
flag_rows false = []

abbrev session_rows : Bool → Text → List Row
session_rows r n = flag_rows r ++ row (codes "session") (n ∷ []) ∷ []

abbrev site_rows : Bool → Text → Text → List Row
site_rows r n s = session_rows r n ++ row (codes "site") (s ∷ []) ∷ []

abbrev option_rows : Bool → Text → Text → Text → List Row
option_rows r n s p = site_rows r n s ++ row (codes "journal") (p ∷ []) ∷ []

-- a flag that isn't there has a value by default
abbrev default_rows : Bool → List Row
default_rows true = []
default_rows false = record (row (codes "resume") (codes "false" ∷ [])) { source = Some DefaultValue } ∷ []

abbrev pub all_rows : Bool → Text → Text → Text → List Text → List Row
all_rows r n s p addresses = (option_rows r n s p ++ row (codes "address") addresses ∷ []) ++ default_rows r

-- ---- where the walk stands

-- behind the flag's place
abbrev behind_flag : Bool → Walk
behind_flag r = at (record { rows = flag_rows r; pending = None; skip = 0 }) idle 1

-- an option waits for its value, or has it
abbrev waits : List Row → Text → Walk
waits rows id = at (holding rows id []) (option id) 1

abbrev has : List Row → Text → Text → Walk
has rows id value = at (holding rows id (value ∷ [])) idle 1

abbrev among_addresses : List Row → List Text → Walk
among_addresses rows addresses = at (holding rows (codes "address") addresses) positional 1

-- ---- the words of the flag and the options

abbrev pub flag_words : Bool → List Text
flag_words true = codes "--resume" ∷ []
flag_words false = []

flag_turn : Turns top (walk_from nothing_held) (codes "--resume") (behind_flag true)
unfolding clap_on_literals
flag_turn = (refl, refl)

session_turn : (r : Bool) → Turns top (behind_flag r) (codes "--session") (waits (flag_rows r) (codes "session"))
unfolding clap_on_literals
session_turn r = (refl, refl)

session_value : (rows : List Row) (n : Text) → IsPlainWord n
    → Turns top (waits rows (codes "session")) n (has rows (codes "session") n)
session_value rows n plain
    = turns_plain top (holding rows (codes "session") []) (option (codes "session")) 1 n _ plain refl refl

site_turn : (r : Bool) (n : Text)
    → Turns top (has (flag_rows r) (codes "session") n) (codes "--site") (waits (session_rows r n) (codes "site"))
unfolding clap_on_literals
site_turn true n = (refl, refl)
site_turn false n = (refl, refl)

site_value : (rows : List Row) (s : Text) → IsPlainWord s
    → Turns top (waits rows (codes "site")) s (has rows (codes "site") s)
site_value rows s plain = turns_plain top (holding rows (codes "site") []) (option (codes "site")) 1 s _ plain refl refl

journal_turn : (r : Bool) (n s : Text)
    → Turns top (has (session_rows r n) (codes "site") s) (codes "--journal")
    (waits (site_rows r n s) (codes "journal"))
unfolding clap_on_literals
journal_turn true n s = (refl, refl)
journal_turn false n s = (refl, refl)

journal_value : (rows : List Row) (p : Text) → IsPlainWord p
    → Turns top (waits rows (codes "journal")) p (has rows (codes "journal") p)
journal_value rows p plain
    = turns_plain top (holding rows (codes "journal") []) (option (codes "journal")) 1 p _ plain refl refl

-- ---- the addresses

first_address : (r : Bool) (n s p a : Text) → IsPlainWord a
    → Turns top (has (site_rows r n s) (codes "journal") p) a (among_addresses (option_rows r n s p) (a ∷ []))
first_address true n s p a plain
    = turns_plain top (holding (site_rows true n s) (codes "journal") (p ∷ [])) idle 1 a _ plain refl refl
first_address false n s p a plain
    = turns_plain top (holding (site_rows false n s) (codes "journal") (p ∷ [])) idle 1 a _ plain refl refl

next_address : (rows : List Row) (read : List Text) (a : Text) → IsPlainWord a
    → Turns top (among_addresses rows read) a (among_addresses rows (read ++ a ∷ []))
next_address rows read a plain = turns_plain top (holding rows (codes "address") read) positional 1 a _ plain refl refl

addresses : (rows : List Row) (read rest : List Text) → ArePlainWords rest
    → Walks top (among_addresses rows read) rest (among_addresses rows (read ++ rest))
addresses rows read [] plain =
    let P : List Text → Type 0
    = λ (all : List Text). Walks top (among_addresses rows read) [] (among_addresses rows all) in
    subst P (sym (append-nil read)) (walks_none top (among_addresses rows read))
addresses rows read (a ∷ rest) plain =
    let P : List Text → Type 0
    = λ (all : List Text). Walks top (among_addresses rows read) (a ∷ rest) (among_addresses rows all) in
    subst P (append_assoc read (a ∷ []) rest)
    (walks_on top _ (among_addresses rows (read ++ a ∷ [])) _ a rest (next_address rows read a plain.0)
    (addresses rows (read ++ a ∷ []) rest plain.1))

-- ---- the walk

-- behind the flag's place
member_walk : (r : Bool) (n s p a : Text) (rest : List Text) → IsPlainWord n → IsPlainWord s → IsPlainWord p
    → ArePlainWords (a ∷ rest)
    → Walks top (behind_flag r) (member_words n s p (a ∷ rest)) (among_addresses (option_rows r n s p) (a ∷ rest))
member_walk r n s p a rest pn ps pp pa =
    walks_on top _ _ _ _ _ (session_turn r)
    (walks_on top _ _ _ _ _ (session_value (flag_rows r) n pn)
    (walks_on top _ _ _ _ _ (site_turn r n)
    (walks_on top _ _ _ _ _ (site_value (session_rows r n) s ps)
    (walks_on top _ _ _ _ _ (journal_turn r n s)
    (walks_on top _ _ _ _ _ (journal_value (site_rows r n s) p pp)
    (walks_on top _ _ _ _ _ (first_address r n s p a pa.0) (addresses (option_rows r n s p) (a ∷ []) rest pa.1)))))))

node_walk : (r : Bool) (n s p a : Text) (rest : List Text) → IsPlainWord n → IsPlainWord s → IsPlainWord p
    → ArePlainWords (a ∷ rest)
    → Walks top (walk_from nothing_held) (flag_words r ++ member_words n s p (a ∷ rest))
    (among_addresses (option_rows r n s p) (a ∷ rest))
node_walk true n s p a rest pn ps pp pa = walks_on top _ _ _ _ _ flag_turn (member_walk true n s p a rest pn ps pp pa)
node_walk false n s p a rest pn ps pp pa = member_walk false n s p a rest pn ps pp pa

-- ---- after the walk

count_fits : (n : ℕ) → 0 < n → n ≤ 16 → range_kinds 1 usize_max n ≡ []
count_fits n some most =
    let a : eqb n 0 ≡ false = ne_eqb n 0 (λ e. omega arith) in
    let b : nat_lt n 1 ≡ false = le-ltb n 1 (omega arith) in
    let c : nat_lt usize_max n ≡ false = le-ltb usize_max n (omega arith) in
    rw (a, b, c) refl

-- any text passes where the argument has no parser of its own
texts_pass : (vs : List Text) → values_kinds false parser.String vs ≡ []
texts_pass [] = refl
texts_pass (v ∷ vs) = texts_pass vs

none_refused : (r : Bool) (n s p a : Text) (rest : List Text) → length (a ∷ rest) ≤ 16
    → refused_by node_app [] (among_addresses (option_rows r n s p) (a ∷ rest)) ≡ []
unfolding defaults_fault
none_refused true n s p a rest most =
    ap₂ (λ x y. or_else (or_else x y) []) (count_fits (length (a ∷ rest)) (omega arith) most) (texts_pass (a ∷ rest))
none_refused false n s p a rest most =
    ap₂ (λ x y. or_else (or_else x y) []) (count_fits (length (a ∷ rest)) (omega arith) most) (texts_pass (a ∷ rest))

pub node_taken : (r : Bool) (n s p a : Text) (rest : List Text) → IsPlainWord n → IsPlainWord s → IsPlainWord p
    → ArePlainWords (a ∷ rest)
    → length (a ∷ rest) ≤ 16 → fault_of node_app (flag_words r ++ member_words n s p (a ∷ rest)) ≡ []
node_taken r n s p a rest pn ps pp pa most =
    let w = node_walk r n s p a rest pn ps pp pa in
    ap₂ (refused_by node_app) w.passes w.ends ∙ none_refused r n s p a rest most

rows_read : (r : Bool) (n s p a : Text) (rest : List Text)
    → rows_at node_app (among_addresses (option_rows r n s p) (a ∷ rest)) ≡ all_rows r n s p (a ∷ rest)
rows_read true n s p a rest = refl
rows_read false n s p a rest = refl

pub node_rows : (r : Bool) (n s p a : Text) (rest : List Text) → IsPlainWord n → IsPlainWord s → IsPlainWord p
    → ArePlainWords (a ∷ rest)
    → matches_of node_app (flag_words r ++ member_words n s p (a ∷ rest)) ≡ all_rows r n s p (a ∷ rest)
node_rows r n s p a rest pn ps pp pa = ap (rows_at node_app) (node_walk r n s p a rest pn ps pp pa).ends
    ∙ rows_read r n s p a rest
