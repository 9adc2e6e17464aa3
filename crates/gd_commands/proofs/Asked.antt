-- From what a parse by `clap` says to what the words ask for.
use Rattle.std.proofs.Common.{◌≡◌, ◌∙◌, true, false, List, [], ◌∷◌, ap, subst, sym, cond, None, inl, inr, ne_eqb}
use Rattle.std.proofs.Common.{length, arith}
use Rattle.clap.specs.Words.{App, HasKind, Kinds, Row, Text, fault_of, is_simple, is_simple_and_free, kind_of}
use Rattle.clap.specs.Words.{matches_of}
use Rattle.clap.specs.Walk.{is_empty}
use Rattle.clap.specs.declared.error.Error.{Error}
use Rattle.clap.specs.declared.error.kind.ErrorKind.TheVariants.{OutOfMemory}
use Rattle.clap.proofs.WalkLemmas.{both}
use Rattle.gd_commands.specs.Forms.{Form, app, asked_by, takes_words}

pub simple_of : (a : App) → is_simple_and_free a ≡ true → is_simple a ≡ true
simple_of a e = (both (is_simple a) _ e).0

pub has_fault : (kinds : Kinds) (e : Error) → HasKind kinds e → (kind_of e ≡ OutOfMemory → ⊥) → is_empty kinds ≡ false
has_fault [] e (inl memory) other = absurd (other memory)
has_fault [] e (inr none) other = absurd none
has_fault (k ∷ ks) e h other = ne_eqb (length (k ∷ ks)) 0 (λ same. omega arith)

pub asked_where_taken : (form : Form) (a : App) (words : List Text) (rows : List Row) → a ≡ app form
    → fault_of a words ≡ []
    → rows ≡ matches_of a words → asked_by form words ≡ form.asks rows
unfolding asked_by
asked_where_taken form a words rows is taken same =
    let t : takes_words (app form) words ≡ true = ap is_empty (subst (λ b. fault_of b words ≡ []) is taken) in
    let r : rows ≡ matches_of (app form) words = subst (λ b. rows ≡ matches_of b words) is same in
    ap (λ b. cond b (form.asks (matches_of (app form) words)) None) t ∙ ap form.asks (sym r)

pub asked_where_refused : (form : Form) (a : App) (words : List Text) → a ≡ app form → takes_words a words ≡ false
    → asked_by form words ≡ None
unfolding asked_by
asked_where_refused form a words is refused =
    ap (λ b. cond b (form.asks (matches_of (app form) words)) None)
    (subst (λ b. takes_words b words ≡ false) is refused)
