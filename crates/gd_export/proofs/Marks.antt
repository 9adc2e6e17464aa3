-- Of what a label holds, quotes, backslashes and line feeds alone are escaped.
use Rattle.std.proofs.Common.{◌≡◌, ◌≤◌, ◌<◌, ℕ, Bool, true, false, cond, ◌||◌, List, [], ◌∷◌, ◌++◌, refl, sym, ap, ap₂}
use Rattle.std.proofs.Common.{◌∙◌, subst, arith, eqb, ne_eqb, nat_lt, nat_le, le-ltb, lt-ltb, ◌+◌, ◌/◌, ◌%◌, zero, suc}
use Rattle.std.specs.Prelude.{chars, codes, decimal, flat_map, not, ◌&&◌, ◌==◌}
use Rattle.std.specs.Fmt.{digits, digits_onto, digit_glyph}
use Rattle.std.specs.List.{list_any}
use Rattle.std.specs.Str.{is_utf8}
use Rattle.std.proofs.Math.Utf8.{encode, encodes}
use Rattle.std.proofs.lemmas.Bool.{and_parts, eqb-true, leb-true, ltb-false}
use Rattle.std.proofs.lemmas.Grind.{flat_map-append}
use Rattle.std.proofs.lemmas.Str.{encodes-chars, IsUtf8-from_is_utf8}
use Rattle.json.specs.Print.{escape_byte, escape_letter, escape}
use Rattle.gd_base.specs.Labels.{IsLabel, is_control, is_strange, has_strange}
use Rattle.gd_base.specs.Stamps.{Stamp}
use Rattle.gd_base.specs.declared.shape.Shape.{Shape}
use Rattle.gd_base.specs.declared.shape.Shape.TheVariants.{Rect, Ellipse, Line, Text}
use Rattle.gd_json.specs.Values.{is_marked, marked}
use Rattle.gd_export.specs.Texts.{is_quiet}
use Rattle.gd_lines.specs.Text.{hex_digit, nibble, high_digits, colour_text, id_text, shape_word}

letter : (b : ℕ) → 32 ≤ b → escape_letter b ≡ cond (is_marked b) b 0
letter b h =
    let e8 : eqb b 8 ≡ false = ne_eqb b 8 (λ e. omega arith) in
    let e12 : eqb b 12 ≡ false = ne_eqb b 12 (λ e. omega arith) in
    let e10 : eqb b 10 ≡ false = ne_eqb b 10 (λ e. omega arith) in
    let e13 : eqb b 13 ≡ false = ne_eqb b 13 (λ e. omega arith) in
    let e9 : eqb b 9 ≡ false = ne_eqb b 9 (λ e. omega arith) in
    rw (e8, e12, e10, e13, e9) refl

abbrev as_letter : ℕ → ℕ → List ℕ
as_letter b l = cond (nat_lt 0 l) (92 ∷ l ∷ []) (b ∷ [])

-- what stands for a byte that is marked or not, and is a line feed or not
abbrev marked_by : Bool → Bool → ℕ → List ℕ
marked_by t feeds b = cond t (92 ∷ b ∷ []) (cond feeds (92 ∷ 110 ∷ []) (b ∷ []))

by_mark : (t feeds : Bool) (b : ℕ) → 32 ≤ b → feeds ≡ false → as_letter b (cond t b 0) ≡ marked_by t feeds b
by_mark true feeds b h e = let e : nat_lt 0 b ≡ true = lt-ltb 0 b (omega arith) in rw e refl
by_mark false true b h e = absurd cc
by_mark false false b h e = refl

no_feed : (b : ℕ) → 32 ≤ b → eqb b 10 ≡ false
no_feed b h = ne_eqb b 10 (λ e. omega arith)

visible : (b : ℕ) → 32 ≤ b → escape_byte b ≡ as_letter b (escape_letter b)
unfolding escape_byte
visible b h = let e : nat_lt b 32 ≡ false = le-ltb b 32 h in rw e refl

marks : (b : ℕ) → 32 ≤ b → escape_byte b ≡ marked b
marks b h = visible b h ∙ ap (as_letter b) (letter b h) ∙ by_mark (is_marked b) (eqb b 10) b h (no_feed b h)

one : (b : ℕ) → 32 ≤ b → escape (b ∷ []) ≡ flat_map marked (b ∷ [])
one b h = ap (λ (bs : List ℕ). bs ++ []) (marks b h)

more : (b : ℕ) (bs : List ℕ) → 32 ≤ b → escape bs ≡ flat_map marked bs → escape (b ∷ bs) ≡ flat_map marked (b ∷ bs)
more b bs h k = ap₂ (λ (x y : List ℕ). x ++ y) (marks b h) k

-- a character that is no control character has no byte below 32
of_char_by : (x y z : Bool) (c a1 a2 b1 b2 b3 d1 d2 d3 d4 : ℕ) → 32 ≤ c → 32 ≤ a1 → 32 ≤ a2 → 32 ≤ b1 → 32 ≤ b2
    → 32 ≤ b3 → 32 ≤ d1 → 32 ≤ d2 → 32 ≤ d3 → 32 ≤ d4
    → let bytes : List ℕ = cond x (c ∷ []) (cond y (a1 ∷ a2 ∷ []) (cond z (b1 ∷ b2 ∷ b3 ∷ []) (d1 ∷ d2 ∷ d3 ∷ d4 ∷ [])))
    in
    escape bytes ≡ flat_map marked bytes
of_char_by true y z c a1 a2 b1 b2 b3 d1 d2 d3 d4 h ha1 ha2 hb1 hb2 hb3 hd1 hd2 hd3 hd4 = one c h
of_char_by false true z c a1 a2 b1 b2 b3 d1 d2 d3 d4 h ha1 ha2 hb1 hb2 hb3 hd1 hd2 hd3 hd4
    = more a1 (a2 ∷ []) ha1 (one a2 ha2)
of_char_by false false true c a1 a2 b1 b2 b3 d1 d2 d3 d4 h ha1 ha2 hb1 hb2 hb3 hd1 hd2 hd3 hd4
    = more b1 (b2 ∷ b3 ∷ []) hb1 (more b2 (b3 ∷ []) hb2 (one b3 hb3))
of_char_by false false false c a1 a2 b1 b2 b3 d1 d2 d3 d4 h ha1 ha2 hb1 hb2 hb3 hd1 hd2 hd3 hd4 =
    more d1 (d2 ∷ d3 ∷ d4 ∷ []) hd1 (more d2 (d3 ∷ d4 ∷ []) hd2 (more d3 (d4 ∷ []) hd3 (one d4 hd4)))

of_char : (c : ℕ) → 32 ≤ c → escape (encode c) ≡ flat_map marked (encode c)
unfolding encode
of_char c h =
    of_char_by (nat_lt c 128) (nat_lt c 2048) (nat_lt c 65536) c (192 + c / 64) (128 + c % 64) (224 + c / 4096)
    (128 + c / 64 % 64) (128 + c % 64)
    (240 + c / 262144) (128 + c / 4096 % 64) (128 + c / 64 % 64) (128 + c % 64) h
    (omega arith) (omega arith) (omega arith) (omega arith) (omega arith) (omega arith) (omega arith) (omega arith)
    (omega arith)

above_by : (c : ℕ) (t : Bool) → nat_lt c 32 ≡ t → (t || (nat_le 127 c && nat_lt c 160)) ≡ false → 32 ≤ c
above_by c true e h = absurd cc
above_by c false e h = ltb-false c 32 e

above_control : (c : ℕ) → is_control c ≡ false → 32 ≤ c
above_control c h = above_by c (nat_lt c 32) refl h

pub none_of : (a b : Bool) → (a || b) ≡ false → (a ≡ false) × (b ≡ false)
none_of true b h = absurd cc
none_of false b h = (refl, h)

pub not_of : (a : Bool) → not a ≡ true → a ≡ false
not_of true h = absurd cc
not_of false h = refl

not_both : (a : Bool) → (a && true) ≡ false → a ≡ false
not_both true h = absurd cc
not_both false h = refl

of_feed : escape (encode 10) ≡ flat_map marked (encode 10)
unfolding encode escape_byte
of_feed = refl

-- a character of a label is a line feed or no control character
of_text_by : (c : ℕ) (feeds : Bool) → (c == 10) ≡ feeds → (is_control c && not feeds) ≡ false
    → escape (encode c) ≡ flat_map marked (encode c)
of_text_by c true e h =
    subst (λ (d : ℕ). escape (encode d) ≡ flat_map marked (encode d)) (sym (eqb-true c 10 e)) of_feed
of_text_by c false e h = of_char c (above_control c (not_both (is_control c) h))

of_text : (c : ℕ) → is_strange c ≡ false → escape (encode c) ≡ flat_map marked (encode c)
of_text c h = of_text_by c (c == 10) refl h

of_chars : (cs : List ℕ) → list_any is_strange cs ≡ false → escape (encodes cs) ≡ flat_map marked (encodes cs)
of_chars [] h = refl
of_chars (c ∷ cs) h =
    let p = none_of (is_strange c) (list_any is_strange cs) h in
    flat_map-append escape_byte (encode c) (encodes cs)
    ∙ ap₂ (λ (x y : List ℕ). x ++ y) (of_text c p.0) (of_chars cs p.1)
    ∙ sym (flat_map-append marked (encode c) (encodes cs))

pub label_marks : (label : List ℕ) → IsLabel label → escape label ≡ flat_map marked label
label_marks label h =
    let p = and_parts (is_utf8 label) (not (has_strange label)) h.plain in
    let same : encodes (chars label) ≡ label = encodes-chars label (IsUtf8-from_is_utf8 label p.0) in
    subst (λ (l : List ℕ). escape l ≡ flat_map marked l) same (of_chars (chars label) (not_of (has_strange label) p.1))

-- ---- texts that need no marks

-- nothing is escaped
abbrev pub IsQuiet : List ℕ → Type 0
IsQuiet text = escape text ≡ text

no_mark : (t feeds : Bool) (b : ℕ) → t ≡ false → feeds ≡ false → marked_by t feeds b ≡ b ∷ []
no_mark true feeds b e f = absurd cc
no_mark false true b e f = absurd cc
no_mark false false b e f = refl

-- a text that needs no marks has none
pub quiet_text : (text : List ℕ) → is_quiet text ≡ true → IsQuiet text
quiet_text [] h = refl
quiet_text (b ∷ bs) h =
    let p = and_parts (nat_le 32 b && not (is_marked b)) (is_quiet bs) h in
    let q = and_parts (nat_le 32 b) (not (is_marked b)) p.0 in
    let least = leb-true 32 b q.0 in
    let same : marked b ≡ b ∷ [] = no_mark (is_marked b) (eqb b 10) b (not_of (is_marked b) q.1) (no_feed b least) in
    ap₂ (λ (x y : List ℕ). x ++ y) (marks b least ∙ same) (quiet_text bs p.1)

-- neither a quote nor a backslash, and no control character
unmarked : (b : ℕ) → 35 ≤ b → b ≤ 91 → marked b ≡ b ∷ []
unmarked b h k =
    let e34 : eqb b 34 ≡ false = ne_eqb b 34 (λ e. omega arith) in
    let e92 : eqb b 92 ≡ false = ne_eqb b 92 (λ e. omega arith) in
    let e10 : eqb b 10 ≡ false = ne_eqb b 10 (λ e. omega arith) in
    rw (e34, e92, e10) refl

quiet_byte : (b : ℕ) (text : List ℕ) → 35 ≤ b → b ≤ 91 → IsQuiet text → IsQuiet (b ∷ text)
quiet_byte b text h k q = ap₂ (λ (x y : List ℕ). x ++ y) (marks b (omega arith) ∙ unmarked b h k) q

quiet_then : (x y : List ℕ) → IsQuiet x → IsQuiet y → IsQuiet (x ++ y)
quiet_then x y h k = flat_map-append escape_byte x y ∙ ap₂ (λ (a b : List ℕ). a ++ b) h k

quiet_by : (t : Bool) (x y : List ℕ) → IsQuiet x → IsQuiet y → IsQuiet (cond t x y)
quiet_by true x y h k = h
quiet_by false x y h k = k

glyph : (d : ℕ) → d < 10 → digit_glyph false d ≡ 48 + d
glyph d h = let e : nat_lt d 10 ≡ true = lt-ltb d 10 h in rw e refl

quiet_digit : (d : ℕ) (text : List ℕ) → d < 10 → IsQuiet text → IsQuiet (digit_glyph false d ∷ text)
quiet_digit d text h q
    = subst (λ (b : ℕ). IsQuiet (b ∷ text)) (sym (glyph d h)) (quiet_byte (48 + d) text (omega arith) (omega arith) q)

quiet_digits : (k n : ℕ) (text : List ℕ) → IsQuiet text → IsQuiet (digits_onto k 10 false n text)
quiet_digits zero n text q = q
quiet_digits (suc k) n text q =
    let one : IsQuiet (digit_glyph false (n % 10) ∷ text) = quiet_digit (n % 10) text (omega arith) q in
    quiet_by (eqb (n / 10) 0) (digit_glyph false (n % 10) ∷ text)
    (digits_onto k 10 false (n / 10) (digit_glyph false (n % 10) ∷ text)) one
    (quiet_digits k (n / 10) (digit_glyph false (n % 10) ∷ text) one)

quiet_decimal : (n : ℕ) → IsQuiet (decimal n)
unfolding digits
quiet_decimal n = quiet_digits 64 n [] refl

pub quiet_id : (id : Stamp) → IsQuiet (id_text id)
unfolding id_text
quiet_id id =
    quiet_then (decimal id.clock ++ codes ".") (decimal id.site)
    (quiet_then (decimal id.clock) (codes ".") (quiet_decimal id.clock)
    (quiet_byte 46 [] (omega arith) (omega arith) refl)) (quiet_decimal id.site)

hex_by : (t : Bool) (d : ℕ) (text : List ℕ) → d < 16 → IsQuiet text → IsQuiet (cond t (48 + d) (55 + d) ∷ text)
hex_by true d text h q = quiet_byte (48 + d) text (omega arith) (omega arith) q
hex_by false d text h q = quiet_byte (55 + d) text (omega arith) (omega arith) q

quiet_hex : (d : ℕ) (text : List ℕ) → d < 16 → IsQuiet text → IsQuiet (hex_digit d ∷ text)
unfolding hex_digit
quiet_hex d text h q = hex_by (nat_lt d 10) d text h q

quiet_nibble : (number weight : ℕ) (text : List ℕ) → IsQuiet text → IsQuiet (nibble number weight ∷ text)
unfolding nibble
quiet_nibble number weight text q = quiet_hex (number / weight % 16) text (omega arith) q

quiet_high : (c : ℕ) → IsQuiet (high_digits c)
unfolding high_digits
quiet_high c =
    quiet_by (nat_le 0x10000000 c) (nibble c 0x10000000 ∷ nibble c 0x1000000 ∷ [])
    (cond (nat_le 0x1000000 c) (nibble c 0x1000000 ∷ []) [])
    (quiet_nibble c 0x10000000 (nibble c 0x1000000 ∷ []) (quiet_nibble c 0x1000000 [] refl))
    (quiet_by (nat_le 0x1000000 c) (nibble c 0x1000000 ∷ []) [] (quiet_nibble c 0x1000000 [] refl) refl)

pub quiet_colour : (c : ℕ) → IsQuiet (colour_text c)
unfolding colour_text
quiet_colour c =
    quiet_then (high_digits c)
    (nibble c 0x100000 ∷ nibble c 0x10000 ∷ nibble c 0x1000 ∷ nibble c 0x100 ∷ nibble c 0x10 ∷ nibble c 1 ∷ [])
    (quiet_high c)
    (quiet_nibble c 0x100000 (nibble c 0x10000 ∷ nibble c 0x1000 ∷ nibble c 0x100 ∷ nibble c 0x10 ∷ nibble c 1 ∷ [])
    (quiet_nibble c 0x10000 (nibble c 0x1000 ∷ nibble c 0x100 ∷ nibble c 0x10 ∷ nibble c 1 ∷ [])
    (quiet_nibble c 0x1000 (nibble c 0x100 ∷ nibble c 0x10 ∷ nibble c 1 ∷ [])
    (quiet_nibble c 0x100 (nibble c 0x10 ∷ nibble c 1 ∷ [])
    (quiet_nibble c 0x10 (nibble c 1 ∷ [])
    (quiet_nibble c 1 [] refl))))))

pub quiet_kind : (kind : Shape) → IsQuiet (shape_word kind)
unfolding escape_byte
quiet_kind Rect = refl
quiet_kind Ellipse = refl
quiet_kind Line = refl
quiet_kind Text = refl
