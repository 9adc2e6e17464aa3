-- How long an event without ties is: a shape with a label of 500 bytes is the longest.
use Rattle.std.proofs.Common.{◌≡◌, ℕ, suc, ◌+◌, ◌*◌, ◌≤◌, Option, Some, None, List, [], ◌∷◌, ◌++◌, length, nat_le}
use Rattle.std.proofs.Common.{length-append, arith}
use Rattle.std.proofs.lemmas.Bool.{cond_both}
use Rattle.gd_base.specs.Contents.{IsTypedBy}
use Rattle.gd_base.specs.declared.content.Content.TheVariants as content
use Rattle.gd_base.specs.declared.content.Height.TheVariants.{To, At}
use Rattle.gd_base.specs.declared.member.Member.{Member}
use Rattle.gd_base.specs.declared.op.Op.TheVariants.{Connect, Create, Delete, Set, Group, Restore, Disband}
use Rattle.gd_base.specs.declared.rank.Rank.TheVariants.{Low, High}
use Rattle.gd_events.specs.Events.{Event}
use Rattle.gd_events.specs.Ops.{Done, Op}
use Rattle.gd_events.specs.Sound.{IsHeight, IsSound, IsWellTyped}
use Rattle.gd_grammar.specs.Drawings.{spelling}
use Rattle.gd_base.specs.Labels.{most_title}
use Rattle.gd_base.specs.Looks.{has_mark}
use Rattle.gd_base.specs.declared.look.Looks.{Looks}
use Rattle.gd_grammar.specs.FieldBytes.{each_bytes, length_bytes, stamp_bytes, text_bytes, word_bytes}
use Rattle.gd_grammar.specs.LookBytes.{align_byte, dash_byte, fill_bytes, heads_byte, letters_bytes, lone, lone_by}
use Rattle.gd_grammar.specs.LookBytes.{looks_bytes, round_bytes, set_bytes, single}
use Rattle.gd_grammar.specs.Spelling.{content_bytes, lone_or, member_bytes, members_bytes, op_bytes}
use Rattle.gd_reference.specs.Fitting.{HasNoTies}

members-length : (members : List Member) → length (members_bytes members) ≡ 15 * length members
unfolding each_bytes
members-length [] = omega arith
members-length (m ∷ ms) = omega (arith, length-append (member_bytes m) (members_bytes ms), members-length ms)

-- ---- labels

length-short : (n : ℕ) → length (length_bytes n) ≤ 2
length-short n = cond_both (nat_le n most_title) _ _ (λ bs. length bs ≤ 2) (λ one. omega arith) (λ two. omega arith)

text-short : (text : List ℕ) → length text ≤ 500 → length (text_bytes text) ≤ 502
text-short text fits =
    omega (arith, fits, length-append (length_bytes (length text)) text, length-short (length text))

-- ---- looks

set-short : {A : Type 0} (bytes_of : A → List ℕ) (most : ℕ) (set : Option A) → ((x : A) → length (bytes_of x) ≤ most)
    → length (set_bytes bytes_of set) ≤ suc most
set-short bytes_of most None each = omega arith
set-short bytes_of most (Some x) each = omega (arith, each x)

word-short : (n : ℕ) → length (word_bytes n) ≤ 4
word-short n = omega arith

fill-short : (fill : Option ℕ) → length (fill_bytes fill) ≤ 4
fill-short None = omega arith
fill-short (Some colour) = omega arith

round-short : (round : Option ℕ) → length (round_bytes round) ≤ 4
round-short None = omega arith
round-short (Some n) = omega arith

letters-short : (letters : Option ℕ) → length (letters_bytes letters) ≤ 2
letters-short None = omega arith
letters-short (Some n) = omega arith

one-short : {A : Type 0} (byte_of : A → ℕ) (x : A) → length (single byte_of x) ≤ 1
one-short byte_of x = omega arith

-- one part more
behind-short : {A : Type 0} (bytes : List ℕ) (bytes_of : A → List ℕ) (size most : ℕ) (set : Option A)
    → length bytes ≤ size → ((x : A) → length (bytes_of x) ≤ most)
    → length (bytes ++ set_bytes bytes_of set) ≤ size + suc most
behind-short bytes bytes_of size most set fits each =
    omega (arith, fits, length-append bytes (set_bytes bytes_of set), set-short bytes_of most set each)

looks-short : (l : Looks) → length (looks_bytes l) ≤ 28
unfolding looks_bytes
looks-short l =
    behind-short _ (single align_byte) 26 1 l.align
    (behind-short _ letters_bytes 23 2 l.letters
    (behind-short _ (single (λ n. n)) 21 1 l.opacity
    (behind-short _ round_bytes 16 4 l.round
    (behind-short _ (single heads_byte) 14 1 l.heads
    (behind-short _ (single dash_byte) 12 1 l.dash
    (behind-short _ (single (λ n. n)) 10 1 l.width
    (behind-short _ fill_bytes 5 4 l.fill (set-short word_bytes 4 l.stroke word-short) fill-short)
    (one-short (λ n. n))) (one-short dash_byte)) (one-short heads_byte)) round-short) (one-short (λ n. n)))
    letters-short) (one-short align_byte)

lone-short : (stroke : Option ℕ) (fill : Option (Option ℕ)) (width : Option ℕ) (all : List ℕ) → length all ≤ 28
    → length (lone_or (lone_by stroke fill width) all) ≤ 28
lone-short (Some stroke) None None all h = omega arith
lone-short None (Some None) None all h = omega arith
lone-short None (Some (Some colour)) None all h = omega arith
lone-short None None (Some width) all h = omega arith
lone-short stroke fill width all h = h

style-short : (l : Looks) → length (lone_or (lone l) (looks_bytes l)) ≤ 28
style-short l =
    cond_both (has_mark l) None (lone_by l.stroke l.fill l.width) (λ bs. length (lone_or bs (looks_bytes l)) ≤ 28)
    (λ marked. looks-short l) (λ plain. lone-short l.stroke l.fill l.width (looks_bytes l) (looks-short l))

-- ---- operations

content-short : (content : Done) → IsTypedBy IsHeight content → length (content_bytes content) ≤ 502
content-short (content.ToLooks looks) typed = omega (arith, style-short looks)
content-short (content.ToText label) typed = text-short label typed.fits
content-short (content.ToEnds None) typed = omega arith
content-short (content.ToEnds (Some ends)) typed = omega arith
content-short (content.ToRank (To side)) typed = omega arith
content-short (content.ToRank (At (Low stamp))) typed = omega arith
content-short (content.ToRank (At (High stamp))) typed = omega arith
content-short content typed = omega arith

op-short : (op : Op) → IsWellTyped op → HasNoTies op → length (op_bytes op) ≤ 520
op-short (Create kind x y w h label) typed free = omega (arith, text-short label typed.fits)
op-short (Delete id) typed free = omega arith
op-short (Set id content) typed free =
    omega (arith, length-append (stamp_bytes id) (content_bytes content), content-short content typed.1)
op-short (Group members) typed free = omega (arith, members-length members, typed.0)
op-short (Connect ends label) typed free = omega (arith, text-short label typed.1.fits)
op-short (Restore id object ties) typed free = absurd free
op-short (Disband id ties) typed free = absurd free

pub spelling-short : (e : Event) → IsSound e → HasNoTies e.op → length (spelling e) ≤ 529
spelling-short e sound free = omega (arith, op-short e.op sound.op.typed free)
