-- The text of an array by its items, and of an object by its members.
use Rattle.std.proofs.Common.{◌≡◌, ◌∙◌, ◌||◌, ℕ, ℤ, pos, negsuc, true, false, List, [], ◌∷◌, ◌++◌, Ordering, Less}
use Rattle.std.proofs.Common.{Equal, Greater, map, refl, sym, ap, ap₂, append_assoc, codes}
use Rattle.std.specs.Prelude.{not}
use Rattle.std.specs.Cmp.Lexicographic.{slice_cmp}
use Rattle.std.specs.Fmt.{signed_decimal}
use Rattle.std.specs.Ordering.{match_ordering, nat_cmp}
use Rattle.std.proofs.lemmas.Bool.{and_parts, and_from}
use Rattle.json.specs.Print.{quoted}
use Rattle.serde_json.specs.Data.{Data, Items, Members, array, item, member, no_items, no_members, number, object, put}
use Rattle.serde_json.specs.Find.{of_integer}
use Rattle.serde_json.specs.View.{view, items_view}
use Rattle.serde_json.specs.Written.{compact_text, has_float, items_text, members_text, items_have_float}
use Rattle.serde_json.specs.Written.{members_have_float}
use Rattle.serde_json.specs.declared.value.Value.{Value}
use Rattle.serde_json.proofs.Views.{view-Array, view-Object}
use Rattle.gd_json.specs.Values as json
use Rattle.gd_export.specs.Texts.{fields_of, is_quiet, is_written, texts_of}
use Rattle.gd_export.proofs.Marks.{none_of, not_of, quiet_text}

-- ---- numbers

pub integer_text : (x : ℤ) → compact_text (number (of_integer x)) ≡ signed_decimal x
integer_text (pos n) = refl
integer_text (negsuc n) = refl

pub integer_plain : (x : ℤ) → has_float (number (of_integer x)) ≡ false
integer_plain (pos n) = refl
integer_plain (negsuc n) = refl

pub ruleset integers = (integer_text, integer_plain)

-- ---- arrays

items_behind : (ds : Items) → items_text true ds ≡ json.behind_commas (texts_of ds) ++ codes "]"
unfolding texts_of
items_behind no_items = refl
items_behind (item d ds) =
    ap (λ (x : List ℕ). 44 ∷ compact_text d ++ x) (items_behind ds)
    ∙ ap (λ (x : List ℕ). 44 ∷ x) (sym (append_assoc (compact_text d) (json.behind_commas (texts_of ds)) (codes "]")))

pub array_text : (ds : Items) → compact_text (array ds) ≡ json.array (texts_of ds)
unfolding texts_of
array_text no_items = refl
array_text (item d ds) =
    ap (λ (x : List ℕ). 91 ∷ compact_text d ++ x) (items_behind ds)
    ∙ ap (λ (x : List ℕ). 91 ∷ x) (sym (append_assoc (compact_text d) (json.behind_commas (texts_of ds)) (codes "]")))

-- one item more
pub texts_push : (vs : List Value) (v : Value)
    → texts_of (items_view (vs ++ v ∷ [])) ≡ texts_of (items_view vs) ++ compact_text (view v) ∷ []
unfolding texts_of
texts_push [] v = refl
texts_push (x ∷ xs) v = ap (λ (ts : List (List ℕ)). compact_text (view x) ∷ ts) (texts_push xs v)

pub items_push : (vs : List Value) (v : Value) → items_have_float (items_view vs) ≡ false → has_float (view v) ≡ false
    → items_have_float (items_view (vs ++ v ∷ [])) ≡ false
items_push [] v h k = ap (λ b. b || false) k
items_push (x ∷ xs) v h k =
    let p = none_of (has_float (view x)) (items_have_float (items_view xs)) h in
    ap₂ (λ a b. a || b) p.0 (items_push xs v p.1 k)

pub ruleset items = (texts_push, items_push)

pub ruleset arrays = (array_text, view-Array)

-- ---- objects

-- a key and its value, and what follows them
one_field : (k t more end rest : List ℕ) → is_quiet k ≡ true → more ≡ rest ++ end
    → quoted k ++ 58 ∷ (t ++ more) ≡ (json.field (k, t) ++ rest) ++ end
one_field k t more end rest quiet same =
    ap₂ (λ (x y : List ℕ). (34 ∷ x ++ 34 ∷ []) ++ 58 ∷ (t ++ y)) (quiet_text k quiet) same
    ∙ sym (append_assoc (json.field (k, t)) rest end ∙ append_assoc (json.plain k ++ codes ":") t (rest ++ end)
    ∙ append_assoc (json.plain k) (codes ":") (t ++ (rest ++ end)))

members_behind : (ms : Members) → is_written ms ≡ true
    → members_text true ms ≡ json.behind_commas (map json.field (fields_of ms)) ++ codes "}"
unfolding fields_of is_written
members_behind no_members h = refl
members_behind (member k d ms) h =
    let p = and_parts _ _ h in
    ap (λ (x : List ℕ). 44 ∷ x)
    (one_field k (compact_text d) (members_text true ms) (codes "}")
    (json.behind_commas (map json.field (fields_of ms))) (and_parts _ _ p.0).0 (members_behind ms p.1))

pub object_text : (ms : Members) → is_written ms ≡ true → compact_text (object ms) ≡ json.object (fields_of ms)
unfolding fields_of is_written
object_text no_members h = refl
object_text (member k d ms) h =
    let p = and_parts _ _ h in
    ap (λ (x : List ℕ). 123 ∷ x)
    (one_field k (compact_text d) (members_text true ms) (codes "}")
    (json.behind_commas (map json.field (fields_of ms))) (and_parts _ _ p.0).0 (members_behind ms p.1))

pub object_plain : (ms : Members) → is_written ms ≡ true → members_have_float ms ≡ false
unfolding is_written
object_plain no_members h = refl
object_plain (member k d ms) h =
    let p = and_parts _ _ h in
    ap₂ (λ a b. a || b) (not_of (has_float d) (and_parts _ _ p.0).1) (object_plain ms p.1)

-- ---- one member more

fields_by : (o : Ordering) (a b c : Members)
    → fields_of (match_ordering o a b c) ≡ match_ordering o (fields_of a) (fields_of b) (fields_of c)
fields_by Less a b c = refl
fields_by Equal a b c = refl
fields_by Greater a b c = refl

pub fields_put : (k : List ℕ) (d : Data) (ms : Members)
    → fields_of (put k d ms) ≡ json.put_field (fields_of ms) (k, compact_text d)
unfolding fields_of json.put_field
fields_put k d no_members = refl
fields_put k d (member l e ms) =
    fields_by (slice_cmp nat_cmp k l) (member k d (member l e ms)) (member l d ms) (member l e (put k d ms))
    ∙ ap (λ (fs : List json.Field). match_ordering (slice_cmp nat_cmp k l)
    ((k, compact_text d) ∷ (l, compact_text e) ∷ fields_of ms) ((l, compact_text d) ∷ fields_of ms)
    ((l, compact_text e) ∷ fs)) (fields_put k d ms)

written_by : (o : Ordering) (a b c : Members) → is_written a ≡ true → is_written b ≡ true → is_written c ≡ true
    → is_written (match_ordering o a b c) ≡ true
written_by Less a b c p q r = p
written_by Equal a b c p q r = q
written_by Greater a b c p q r = r

pub written_put : (k : List ℕ) (d : Data) (ms : Members) → is_quiet k ≡ true → has_float d ≡ false
    → is_written ms ≡ true → is_written (put k d ms) ≡ true
unfolding is_written
written_put k d no_members quiet plain h = and_from _ _ (and_from _ _ quiet (ap not plain)) refl
written_put k d (member l e ms) quiet plain h =
    let p = and_parts _ _ h in
    let here = and_from _ _ quiet (ap not plain) in
    written_by (slice_cmp nat_cmp k l) (member k d (member l e ms)) (member l d ms) (member l e (put k d ms))
    (and_from _ _ here h) (and_from _ _ (and_from _ _ (and_parts _ _ p.0).0 (ap not plain)) p.1)
    (and_from _ _ p.0 (written_put k d ms quiet plain p.1))

pub ruleset fields = (fields_put, written_put)

pub ruleset objects = (object_text, object_plain, view-Object)
