-- What is read is in its ranges: word by word, and then row by row.
use Rattle.std.proofs.Common.{◌≡◌, ℕ, zero, suc, ℤ, pos, negsuc, neg_ℤ, nat_abs, ◌+◌, ◌-◌, ◌^◌, ◌<◌, ◌≤◌, Bool, true}
use Rattle.std.proofs.Common.{false, ◌&&◌, ◌||◌, ◌/◌, List, [], ◌∷◌, ◌++◌, length, take, drop, Option, Some, None, Ok}
use Rattle.std.proofs.Common.{Err, nat_lt, nat_le, ◌==◌, if◌then◌else◌, subst, refl, arith}
use Rattle.std.specs.Prelude.{IfSome, All, Result, is_some, unwrap_or}
use Rattle.std.specs.Bool.{then_some}
use Rattle.std.specs.List.{fold, list_all, position_or_len}
use Rattle.std.specs.Option.{option_map, option_and_then}
use Rattle.std.proofs.lemmas.Bool.{and_parts, and_from, ltb-true}
use Rattle.std.proofs.lemmas.Bool.Decides.{nat_tests}
use Rattle.std.proofs.lemmas.List.{length_push}
use Rattle.std.proofs.lemmas.List.Elements.{All-nil, All-push, recursion_from_All}
use Rattle.gd_base.specs.Contents.{Said, IsSaid}
use Rattle.gd_base.specs.Labels.{IsLabel, is_name, is_text, most_label}
use Rattle.gd_base.specs.Looks.{are_looks, are_numbers, has_look, no_looks}
use Rattle.gd_base.specs.Ranges.{place_limit, size_limit, is_within, is_colour, is_fill, is_letters, is_opacity}
use Rattle.gd_base.specs.Ranges.{is_round, is_width}
use Rattle.gd_base.specs.declared.look.Align.{Align}
use Rattle.gd_base.specs.declared.look.Dash.{Dash}
use Rattle.gd_base.specs.declared.look.Heads.{Heads}
use Rattle.gd_base.specs.declared.look.Looks.{Looks}
use Rattle.gd_base.specs.declared.object.Ends.{Ends}
use Rattle.gd_base.specs.Typed.{AreEnds}
use Rattle.gd_base.specs.Sites.{is_site, IsSite}
use Rattle.gd_base.specs.Stamps.{Stamp, IsStamp}
use Rattle.gd_base.specs.declared.ranges.TheConstants.{CLOCK_LIMIT, LETTERS_LIMIT, MOST_MEMBERS, OPACITY_LIMIT}
use Rattle.gd_base.specs.declared.ranges.TheConstants.{ROUND_LIMIT, SITES, WIDTH_LIMIT}
use Rattle.gd_base.specs.declared.refusal.LineFault.{LineFault}
use Rattle.gd_base.specs.declared.refusal.LineFault.TheVariants.{BadNumber}
use Rattle.gd_base.proofs.SiteLemmas.{is_site-bounds}
use Rattle.gd_lines.specs.declared.command.Command.{Command}
use Rattle.gd_lines.specs.declared.command.Command.TheVariants as command
use Rattle.gd_lines.specs.declared.command.ScriptLine.{ScriptLine}
use Rattle.gd_lines.specs.declared.command.ScriptLine.TheVariants as script
use Rattle.gd_lines.specs.Edits.{kind_at, within_at, natural_at, width_at, id_at, colour_at, fill_at, label_at}
use Rattle.gd_lines.specs.Edits.{ids_at, create_words, delete_words, group_words, set_words, two_words}
use Rattle.gd_lines.specs.Edits.{value_at, look_words, named_at, looks_at, style_words, ends_at, ends_words}
use Rattle.gd_lines.specs.Edits.{connect_words, text_words, pairs, other_rows, look_rows, edit_rows}
use Rattle.gd_lines.specs.InRange.{IsCommand, IsAsked, IsScriptLine}
use Rattle.gd_lines.specs.LineWords.{word, behind, without_cr}
use Rattle.gd_lines.specs.Lines.{focus_at, name_at, focus_words, name_words, asked_rows, command_rows, read}
use Rattle.gd_lines.specs.Reading.{Reader, next}
use Rattle.gd_lines.specs.Rows.{by_name, reader_of}
use Rattle.gd_lines.specs.ScriptLines.{site_at, mail_at, site_words, at_words, send_words, deliver_words, script_rows}
use Rattle.gd_lines.specs.ScriptLines.{read_script}
use Rattle.gd_lines.specs.declared.look_name.LookName.{LookName}
use Rattle.gd_lines.specs.declared.look_name.LookName.TheVariants as look
use Rattle.gd_lines.specs.WordKinds.{unescaped, digit, is_digit, push_digit, value, numeral, number, is_between}
use Rattle.gd_lines.specs.WordKinds.{number_in, natural_in, in_ranges, is_dot, id, colour, fill, focus, label, name}
use Rattle.gd_words.proofs.Digits.{push_small}
use Rattle.gd_words.proofs.Readers.{Yields, Reads, then_reads, pure_reads, fault_reads, any, weaker_yields, by_spelling}
use Rattle.gd_words.proofs.Readers.{AllRead, all_weaker, named_reads, line_reads}

then_holds : {A : Type 0} (P : A → Type 0) (test : Bool) (x : A) → (test ≡ true → P x) → IfSome (then_some test x) P
then_holds P true x h = h refl
then_holds P false x h = tt

abbrev InBounds : ℤ → ℤ → ℤ → Type 0
InBounds low high z = is_between low high z ≡ true

-- `number_in`, of what was read as a number
abbrev bounded : ℤ → ℤ → Option ℤ → Option ℤ
bounded low high o = option_and_then (λ z. then_some (is_between low high z) z) o

bounded_in : (low high : ℤ) (o : Option ℤ) → IfSome (bounded low high o) (InBounds low high)
bounded_in low high None = tt
bounded_in low high (Some z) = then_holds (InBounds low high) (is_between low high z) z (λ e. e)

-- a place, or a size
abbrev InLimit : ℕ → ℤ → Type 0
InLimit limit z = is_within limit z ≡ true

within_in : (limit : ℕ) (line : List ℕ)
    → Yields (InLimit limit) (next BadNumber (number_in (neg_ℤ (pos limit)) (pos limit)) line)
unfolding number_in
within_in limit line =
    let low = neg_ℤ (pos limit) in
    by_spelling _ _ _ (bounded low (pos limit) (number (word line))) (bounded_in low (pos limit) (number (word line)))

abbrev InRange : ℕ → ℕ → ℕ → Type 0
InRange low high n = (nat_le low n && nat_le n high) ≡ true

natural_of : (low high : ℕ) (z : ℤ) → InBounds (pos low) (pos high) z → InRange low high (nat_abs z)
natural_of low high (pos n) e = e
natural_of low high (negsuc n) e = absurd cc

natural_by : (low high : ℕ) (o : Option ℤ) → IfSome o (InBounds (pos low) (pos high))
    → IfSome (option_map nat_abs o) (InRange low high)
natural_by low high None h = tt
natural_by low high (Some z) h = natural_of low high z h

natural_in_range : (low high : ℕ) (line : List ℕ) → Yields (InRange low high) (natural_at low high line)
unfolding natural_at natural_in number_in
natural_in_range low high line =
    let o = bounded (pos low) (pos high) (number (word line)) in
    by_spelling _ _ _ (option_map nat_abs o)
    (natural_by low high o (bounded_in (pos low) (pos high) (number (word line))))

width_in : (line : List ℕ) → Yields (λ n. is_width n ≡ true) (width_at line)
unfolding width_at
width_in line = natural_in_range 1 WIDTH_LIMIT line

stamp_of : (c s : ℕ) → ((nat_le 1 c && nat_lt c CLOCK_LIMIT) && is_site SITES s) ≡ true
    → IsStamp (record { clock = c; site = s })
stamp_of c s e = grind arith

stamp_in : (c s : Option ℕ) → IfSome (in_ranges c s) IsStamp
stamp_in None s = tt
stamp_in (Some c) None = tt
stamp_in (Some c) (Some s) = then_holds IsStamp _ (record { clock = c; site = s }) (stamp_of c s)

id_of : (text : List ℕ) → IfSome (id text) IsStamp
unfolding id
id_of text =
    let dot = position_or_len is_dot text in
    stamp_in (numeral 10 1 15 (take dot text)) (numeral 10 1 2 (drop 1 (drop dot text)))

id_in : (line : List ℕ) → Yields IsStamp (id_at line)
unfolding id_at
id_in line = by_spelling IsStamp _ _ (id (word line)) (id_of (word line))

small : (text : List ℕ) (n i : ℕ) → list_all (is_digit 16) text ≡ true → n < 16 ^ i
    → fold (push_digit 16) n text < 16 ^ (i + length text)
small [] n i all h = let same : i + 0 ≡ i = omega arith in rw same h
small (b ∷ bs) n i all h =
    let p = and_parts _ _ all in
    let same : (i + 1) + length bs ≡ i + length (b ∷ bs) = omega arith in
    subst (λ k. fold (push_digit 16) (push_digit 16 n b) bs < 16 ^ k) same
    (small bs (push_digit 16 n b) (i + 1) p.1 (push_small n 16 (digit b) i h (omega arith) (ltb-true _ _ p.0)))

six : (n : ℕ) → (nat_le 6 n && nat_le n 6) ≡ true → n ≡ 6
six n e = grind arith

colour_small : (text : List ℕ)
    → ((nat_le 6 (length text) && nat_le (length text) 6) && list_all (is_digit 16) text) ≡ true
    → is_colour (value 16 text) ≡ true
colour_small text e =
    let p = and_parts _ _ e in
    let long : 0 + length text ≡ 6 = omega (arith, six (length text) p.0) in
    let least : value 16 text < 16777216 = subst (λ k. value 16 text < 16 ^ k) long (small text 0 0 p.1 (omega arith))
    in
    grind (arith, nat_tests, least)

colour_of : (text : List ℕ) → IfSome (colour text) (λ c. is_colour c ≡ true)
unfolding colour numeral
colour_of text = then_holds (λ c. is_colour c ≡ true) _ (value 16 text) (colour_small text)

colour_in : (line : List ℕ) → Yields (λ c. is_colour c ≡ true) (colour_at line)
unfolding colour_at
colour_in line = by_spelling _ _ _ (colour (word line)) (colour_of (word line))

-- a word that stands for none, or one that is read
or_none : {A : Type 0} (P : A → Type 0) (Q : Option A → Type 0) (b : Bool) (o : Option A) → Q None
    → ((x : A) → P x → Q (Some x)) → IfSome o P
    → IfSome (if b then Some None else option_map Some o) Q
or_none P Q true o none some h = none
or_none P Q false None none some h = tt
or_none P Q false (Some x) none some h = some x h

fill_in : (line : List ℕ) → Yields (λ f. is_fill f ≡ true) (fill_at line)
unfolding fill_at fill
fill_in line = by_spelling (λ f. is_fill f ≡ true) _ _ _
    (or_none (λ c. is_colour c ≡ true) (λ f. is_fill f ≡ true) _ (colour (word line)) refl (λ c h. h)
    (colour_of (word line)))

IsFocus : Option Stamp → Type 0
IsFocus f = IsCommand (command.Focus f)

focus_in : (line : List ℕ) → Yields IsFocus (focus_at line)
unfolding focus_at focus IsFocus
focus_in line = by_spelling IsFocus _ _ _ (or_none IsStamp IsFocus _ (id (word line)) tt (λ i h. h) (id_of (word line)))

name_in : (line : List ℕ) → Yields (λ n. is_name n ≡ true) (name_at line)
unfolding name_at name
name_in line =
    by_spelling _ _ _ (then_some (is_name (word line)) (word line))
    (then_holds (λ n. is_name n ≡ true) _ (word line) (λ e. e))

label_of : (text : List ℕ) → (nat_le (length text) most_label && is_text text) ≡ true → IsLabel text
label_of text e = grind arith

label_by : (o : Option (List ℕ))
    → IfSome (option_and_then (λ t. then_some (nat_le (length t) most_label && is_text t) t) o) IsLabel
label_by None = tt
label_by (Some text) = then_holds IsLabel _ text (label_of text)

label_in : (line : List ℕ) → Yields IsLabel (label_at line)
unfolding label_at label
label_in line = by_spelling IsLabel _ _ _ (label_by (unescaped false (drop 1 line)))

-- ---- readers

natural_read : (low high : ℕ) → Reads (InRange low high) (natural_at low high)
natural_read low high = record { at = natural_in_range low high }

within_read : (limit : ℕ) → Reads (InLimit limit) (within_at limit)
unfolding within_at
within_read limit = record { at = within_in limit }

width_read : Reads (λ n. is_width n ≡ true) width_at
width_read = record { at = width_in }

id_read : Reads IsStamp id_at
id_read = record { at = id_in }

colour_read : Reads (λ c. is_colour c ≡ true) colour_at
colour_read = record { at = colour_in }

fill_read : Reads (λ f. is_fill f ≡ true) fill_at
fill_read = record { at = fill_in }

label_read : Reads IsLabel label_at
label_read = record { at = label_in }

focus_at_read : Reads IsFocus focus_at
focus_at_read = record { at = focus_in }

name_at_read : Reads (λ n. is_name n ≡ true) name_at
name_at_read = record { at = name_in }

abbrev AreIds : ℕ → List Stamp → Type 0
AreIds n ids = (length ids ≡ n) × All IsStamp ids

ids_read : (count n : ℕ) (ids : List Stamp) → length ids + count ≡ n → All IsStamp ids
    → Reads (AreIds n) (ids_at count ids)
unfolding ids_at
ids_read zero n ids total h = pure_reads _ (omega (arith, total), h)
ids_read (suc count) n ids total h =
    then_reads id_read (λ i is. ids_read count n (ids ++ i ∷ []) (omega (arith, total, length_push ids i))
    (All-push IsStamp ids i h is))

-- ---- contents

two_said : (limit : ℕ) (make : ℤ → ℤ → Said)
    → ((x y : ℤ) → (is_within limit x && is_within limit y) ≡ true → IsSaid (make x y))
    → Reads IsSaid (two_words limit make)
unfolding two_words
two_said limit make said =
    then_reads (within_read limit)
    (λ x in_x. then_reads (within_read limit) (λ y in_y. pure_reads _ (said x y (and_from _ _ in_x in_y))))

text_said : Reads IsSaid text_words
unfolding text_words
text_said = then_reads label_read (λ label is. pure_reads _ (is, refl))

-- ---- looks

-- the parts of looks that are numbers are in their ranges
abbrev AreNumbers : Looks → Type 0
AreNumbers l = are_numbers l ≡ true

-- and one is set
abbrev AreLooks : Looks → Type 0
AreLooks l = are_looks l ≡ true

or_second : (s t : Bool) → t ≡ true → (s || t) ≡ true
or_second true t h = refl
or_second false t h = h

-- a part is set behind two, five, six and seven others
or_third : (a b t : Bool) → t ≡ true → (a || (b || t)) ≡ true
or_third a b t h = or_second a _ (or_second b t h)

or_sixth : (a b c d e t : Bool) → t ≡ true → (a || (b || (c || (d || (e || t))))) ≡ true
or_sixth a b c d e t h = or_third a b _ (or_third c d _ (or_second e t h))

numbers_of : (l : Looks) → AreLooks l → AreNumbers l
numbers_of l h = (and_parts _ _ h).1

-- six tests that all hold, one by one
each_six : (a b c d e f : Bool) → (a && (b && (c && (d && (e && f))))) ≡ true
    → (a ≡ true) × (b ≡ true) × (c ≡ true) × (d ≡ true) × (e ≡ true) × (f ≡ true)
each_six a b c d e f h =
    let p = and_parts a (b && (c && (d && (e && f)))) h in
    let q = and_parts b (c && (d && (e && f))) p.1 in
    let r = and_parts c (d && (e && f)) q.1 in
    let s = and_parts d (e && f) r.1 in
    let t = and_parts e f s.1 in
    (p.0, q.0, r.0, s.0, t.0, t.1)

all_six : (a b c d e f : Bool) → a ≡ true → b ≡ true → c ≡ true → d ≡ true → e ≡ true → f ≡ true
    → (a && (b && (c && (d && (e && f))))) ≡ true
all_six a b c d e f p q r s t u = and_from a _ p (and_from b _ q (and_from c _ r (and_from d _ s (and_from e f t u))))

abbrev SixHold : Looks → Type 0
SixHold l =
    (is_colour (unwrap_or l.stroke 0) ≡ true) × (is_fill (unwrap_or l.fill None) ≡ true)
    × (is_width (unwrap_or l.width 1) ≡ true)
    × (is_round (unwrap_or l.round None) ≡ true) × (is_opacity (unwrap_or l.opacity 1) ≡ true)
    × (is_letters (unwrap_or l.letters None) ≡ true)

numbers : (l : Looks) → AreNumbers l → SixHold l
numbers l h =
    each_six (is_colour (unwrap_or l.stroke 0)) (is_fill (unwrap_or l.fill None)) (is_width (unwrap_or l.width 1))
    (is_round (unwrap_or l.round None)) (is_opacity (unwrap_or l.opacity 1)) (is_letters (unwrap_or l.letters None)) h

looks_by : (l : Looks) → has_look l ≡ true → SixHold l → AreLooks l
looks_by l has h =
    and_from (has_look l) (are_numbers l) has
    (all_six (is_colour (unwrap_or l.stroke 0)) (is_fill (unwrap_or l.fill None)) (is_width (unwrap_or l.width 1))
    (is_round (unwrap_or l.round None)) (is_opacity (unwrap_or l.opacity 1)) (is_letters (unwrap_or l.letters None)) h.0
    h.1 h.2 h.3 h.4 h.5)

stroke_put : (l : Looks) (c : ℕ) → AreNumbers l → is_colour c ≡ true → AreLooks (record l { stroke = Some c })
stroke_put l c h is =
    let p = numbers l h in
    looks_by (record l { stroke = Some c }) refl (is, p.1, p.2, p.3, p.4, p.5)

fill_put : (l : Looks) (f : Option ℕ) → AreNumbers l → is_fill f ≡ true → AreLooks (record l { fill = Some f })
fill_put l f h is =
    let p = numbers l h in
    looks_by (record l { fill = Some f }) (or_second (is_some l.stroke) _ refl) (p.0, is, p.2, p.3, p.4, p.5)

width_put : (l : Looks) (n : ℕ) → AreNumbers l → is_width n ≡ true → AreLooks (record l { width = Some n })
width_put l n h is =
    let p = numbers l h in
    looks_by (record l { width = Some n }) (or_third (is_some l.stroke) (is_some l.fill) _ refl)
    (p.0, p.1, is, p.3, p.4, p.5)

dash_put : (l : Looks) (d : Dash) → AreNumbers l → AreLooks (record l { dash = Some d })
dash_put l d h = and_from _ _ (or_third (is_some l.stroke) (is_some l.fill) _ (or_second (is_some l.width) _ refl)) h

heads_put : (l : Looks) (d : Heads) → AreNumbers l → AreLooks (record l { heads = Some d })
heads_put l d h = and_from _ _
    (or_third (is_some l.stroke) (is_some l.fill) _ (or_third (is_some l.width) (is_some l.dash) _ refl)) h

round_put : (l : Looks) (n : ℕ) → AreNumbers l → nat_le n ROUND_LIMIT ≡ true
    → AreLooks (record l { round = Some (Some n) })
round_put l n h is =
    let p = numbers l h in
    looks_by (record l { round = Some (Some n) })
    (or_sixth (is_some l.stroke) (is_some l.fill) (is_some l.width) (is_some l.dash) (is_some l.heads) _ refl)
    (p.0, p.1, p.2, is, p.4, p.5)

opacity_put : (l : Looks) (n : ℕ) → AreNumbers l → is_opacity n ≡ true → AreLooks (record l { opacity = Some n })
opacity_put l n h is =
    let p = numbers l h in
    looks_by (record l { opacity = Some n })
    (or_sixth (is_some l.stroke) (is_some l.fill) (is_some l.width) (is_some l.dash) (is_some l.heads) _
    (or_second (is_some l.round) _ refl))
    (p.0, p.1, p.2, p.3, is, p.5)

letters_put : (l : Looks) (n : ℕ) → AreNumbers l → is_letters (Some n) ≡ true
    → AreLooks (record l { letters = Some (Some n) })
letters_put l n h is =
    let p = numbers l h in
    looks_by (record l { letters = Some (Some n) })
    (or_sixth (is_some l.stroke) (is_some l.fill) (is_some l.width) (is_some l.dash) (is_some l.heads) _
    (or_third (is_some l.round) (is_some l.opacity) _ refl))
    (p.0, p.1, p.2, p.3, p.4, is)

align_put : (l : Looks) (a : Option Align) → AreNumbers l → AreLooks (record l { align = Some a })
align_put l a h =
    and_from _ _ (or_sixth (is_some l.stroke) (is_some l.fill) (is_some l.width) (is_some l.dash) (is_some l.heads) _
    (or_third (is_some l.round) (is_some l.opacity) _ (or_second (is_some l.letters) _ refl))) h

value_read : (name : LookName) (l : Looks) → AreNumbers l → Reads AreLooks (value_at name l)
unfolding value_at
value_read look.Stroke l h = then_reads colour_read (λ c is. pure_reads _ (stroke_put l c h is))
value_read look.Fill l h = then_reads fill_read (λ f is. pure_reads _ (fill_put l f h is))
value_read look.Width l h = then_reads width_read (λ n is. pure_reads _ (width_put l n h is))
value_read look.Dash l h = then_reads (any _) (λ d is. pure_reads _ (dash_put l d h))
value_read look.Heads l h = then_reads (any _) (λ d is. pure_reads _ (heads_put l d h))
value_read look.Round l h
    = then_reads (natural_read 0 ROUND_LIMIT) (λ n is. pure_reads _ (round_put l n h (and_parts _ _ is).1))
value_read look.Opacity l h = then_reads (natural_read 1 OPACITY_LIMIT) (λ n is. pure_reads _ (opacity_put l n h is))
value_read look.Size l h = then_reads (natural_read 1 LETTERS_LIMIT) (λ n is. pure_reads _ (letters_put l n h is))
value_read look.Align l h = then_reads (any _) (λ a is. pure_reads _ (align_put l (Some a) h))

named_read : (l : Looks) → AreNumbers l → Reads AreLooks (named_at l)
unfolding named_at
named_read l h = then_reads (any _) (λ name a. value_read name l h)

more_read : (count : ℕ) (l : Looks) → AreLooks l → Reads AreLooks (looks_at count l)
unfolding looks_at
more_read zero l h = pure_reads _ h
more_read (suc count) l h = then_reads (named_read l (numbers_of l h)) (λ m is. more_read count m is)

looks_read : (count : ℕ) → 0 < count → Reads AreLooks (looks_at count no_looks)
unfolding looks_at
looks_read zero some = absurd (omega (arith, some))
looks_read (suc count) some = then_reads (named_read no_looks refl) (λ m is. more_read count m is)

look_said : (name : LookName) → Reads IsSaid (look_words name)
unfolding look_words
look_said name = then_reads (value_read name no_looks refl) (λ l is. pure_reads _ (tt, is))

style_said : (n : ℕ) → pairs n ≡ true → Reads IsSaid (style_words ((n - 1) / 2))
unfolding style_words
style_said n fit =
    let least : 3 ≤ n = grind arith in
    then_reads (looks_read ((n - 1) / 2) (omega (arith, least))) (λ l is. pure_reads _ (tt, is))

-- ---- ends

BothStamps : Ends → Type 0
BothStamps ends = AreEnds (Some ends)

ends_read : Reads BothStamps ends_at
unfolding ends_at BothStamps
ends_read = then_reads id_read
    (λ first is_first. then_reads id_read (λ second is_second. pure_reads _ (is_first, is_second)))

ends_said : Reads IsSaid ends_words
unfolding ends_words BothStamps
ends_said = then_reads ends_read (λ ends are. pure_reads _ (are, refl))

-- ---- edits

-- in its ranges, and something that a site may be asked for
abbrev IsFit : Command → Type 0
IsFit c = IsCommand c × IsAsked c

create_read : Reads IsFit create_words
unfolding create_words
create_read =
    then_reads (any kind_at) (λ kind a. then_reads (within_read _) (λ x in_x. then_reads (within_read _) (λ y in_y.
    then_reads (within_read _) (λ w in_w. then_reads (within_read _) (λ h in_h. then_reads label_read (λ label is.
    pure_reads _ ((and_from _ _ in_x (and_from _ _ in_y (and_from _ _ in_w in_h)), is), tt)))))))

delete_read : Reads IsFit delete_words
unfolding delete_words
delete_read = then_reads id_read (λ id is. pure_reads _ (is, tt))

group_read : (n : ℕ) → (nat_le 2 n && nat_le n MOST_MEMBERS) ≡ true → Reads IsFit (group_words n)
unfolding group_words
group_read n fit =
    let least : 2 ≤ n = grind arith in
    let most : n ≤ MOST_MEMBERS = grind arith in
    then_reads (ids_read n n [] (omega arith) (All-nil IsStamp)) (λ ids are.
    pure_reads _ ((omega (arith, are.0, least), omega (arith, are.0, most), recursion_from_All IsStamp ids are.1), tt))

connect_read : Reads IsFit connect_words
unfolding connect_words
connect_read =
    then_reads id_read (λ first is_first. then_reads id_read (λ second is_second. then_reads label_read (λ label is.
    pure_reads _ (((is_first, is_second), is), tt))))

set_read : {content : Reader Said} → Reads IsSaid content → Reads IsFit (set_words content)
unfolding set_words
set_read said = then_reads id_read (λ id is. then_reads said (λ c in_range. pure_reads _ ((is, in_range), tt)))

others_read : AllRead IsFit other_rows
unfolding AllRead other_rows
others_read = (
  λ n fit. set_read text_said,
  (
    λ n fit. connect_read,
    (
      λ n fit. set_read ends_said,
      (
        λ n fit. group_read n fit,
        (
          λ n fit. set_read (pure_reads _ (tt, refl)),
          (
            λ n fit. set_read (pure_reads _ (tt, refl)),
            (
              λ n fit. set_read (pure_reads _ (tt, refl)),
              tt,
            ),
          ),
        ),
      ),
    ),
  ),
)

styles_read : AllRead IsFit look_rows
unfolding AllRead look_rows
styles_read = (
  λ n fit. set_read (look_said look.Stroke),
  (
    λ n fit. set_read (look_said look.Fill),
    (
      λ n fit. set_read (look_said look.Width),
      (
        λ n fit. set_read (look_said look.Dash),
        (
          λ n fit. set_read (look_said look.Heads),
          (
            λ n fit. set_read (look_said look.Round),
            (
              λ n fit. set_read (look_said look.Opacity),
              (
                λ n fit. set_read (look_said look.Size),
                (
                  λ n fit. set_read (look_said look.Align),
                  (
                    λ n fit. set_read (style_said n fit),
                    others_read,
                  ),
                ),
              ),
            ),
          ),
        ),
      ),
    ),
  ),
)

edits_read : AllRead IsFit edit_rows
unfolding AllRead edit_rows
edits_read = (
  λ n fit. create_read,
  (
    λ n fit. delete_read,
    (
      λ n fit. set_read (two_said _ _ (λ x y is. (tt, is))),
      (
        λ n fit. set_read (two_said _ _ (λ w h is. (tt, is))),
        styles_read,
      ),
    ),
  ),
)

-- ---- commands

focus_read : Reads IsFit focus_words
unfolding focus_words IsFocus
focus_read = then_reads focus_at_read (λ focus is. pure_reads _ (is, tt))

name_read : Reads IsFit name_words
unfolding name_words
name_read = then_reads name_at_read (λ name is. pure_reads _ (is, tt))

asked_read : AllRead IsFit asked_rows
unfolding AllRead asked_rows
asked_read = (
  λ n fit. pure_reads _ (tt, tt),
  (
    λ n fit. pure_reads _ (tt, tt),
    (
      λ n fit. pure_reads _ (tt, tt),
      (
        λ n fit. pure_reads _ (tt, tt),
        (
          λ n fit. focus_read,
          (
            λ n fit. name_read,
            (
              λ n fit. pure_reads _ (tt, tt),
              edits_read,
            ),
          ),
        ),
      ),
    ),
  ),
)

commands_read : AllRead IsCommand command_rows
unfolding AllRead command_rows
commands_read = (
  λ n fit. pure_reads _ tt,
  (
    λ n fit. pure_reads _ tt,
    (
      λ n fit. pure_reads _ tt,
      (
        λ n fit. pure_reads _ tt,
        all_weaker IsFit IsCommand asked_rows (λ c h. h.0) asked_read,
      ),
    ),
  ),
)

pub line_in : (bytes : List ℕ) (c : Command) → read bytes ≡ Ok c → IsCommand c
unfolding read
line_in bytes c e = line_reads IsCommand command_rows command.Blank commands_read tt (without_cr bytes) c e

-- ---- lines of a rehearsal

site_read : Reads IsSite site_at
unfolding site_at
site_read = record {
  at
      = λ line. weaker_yields (InRange 1 SITES) IsSite (natural_at 1 SITES line) (is_site-bounds SITES)
      (natural_in_range 1 SITES line);
}

site_command_read : (given : Result (Reader Command) LineFault) → Reads IsFit (reader_of given)
    → Reads IsScriptLine (site_words given)
site_command_read (Err why) h = fault_reads IsScriptLine why
site_command_read (Ok words) h
    = then_reads site_read
    (λ site is. then_reads (any _) (λ name a. then_reads h (λ c fit. pure_reads _ (is, fit.0, fit.1))))

at_read : (n : ℕ) → Reads IsScriptLine (at_words n)
unfolding at_words
at_read n = record {
  at = λ line.
      let given = by_name asked_rows (word (behind line)) (n - 2) in
      (site_command_read given (named_reads IsFit asked_rows asked_read (word (behind line)) (n - 2))).at line;
}

send_read : Reads IsScriptLine send_words
unfolding send_words
send_read = then_reads site_read
    (λ sender is_from. then_reads site_read (λ receiver is_to. pure_reads _ (is_from, is_to)))

deliver_read : Reads IsScriptLine deliver_words
unfolding deliver_words
deliver_read = then_reads (any mail_at) (λ mail a. pure_reads _ tt)

script_read : AllRead IsScriptLine script_rows
unfolding AllRead script_rows
script_read = (λ n fit. at_read n, (λ n fit. send_read, (λ n fit. deliver_read, (λ n fit. pure_reads _ tt, tt))))

pub script_line_in : (bytes : List ℕ) (l : ScriptLine) → read_script bytes ≡ Ok l → IsScriptLine l
unfolding read_script
script_line_in bytes l e = line_reads IsScriptLine script_rows script.Blank script_read tt (without_cr bytes) l e
