-- Each part of a look is read alike whatever follows it. A look takes at most 19 bytes, and what is set of looks at
-- most 28.
use Rattle.std.proofs.Common.{ℕ, ◌+◌, cond, None, Some, Ok, arith}
use Rattle.std.specs.Prelude.{◌==◌}
use Rattle.gd_base.specs.Ranges.{is_colour, is_letters, is_opacity, is_round, is_width}
use Rattle.gd_grammar.specs.EventBytes.{colour_at, fill_at}
use Rattle.gd_grammar.specs.Fields.{byte_at, half_at, word_at}
use Rattle.gd_grammar.specs.LookBytes.{none_or, thin_at, dash_rows, dash_at, heads_rows, heads_at, round_at, opacity_at}
use Rattle.gd_grammar.specs.LookBytes.{letters_at, align_rows, align_at, look_at, set_rows, if_set, all_looks_at}
use Rattle.gd_grammar.specs.Reading.{Reader, ranged, then_at}
use Rattle.gd_grammar.specs.Steady.{Steady}
use Rattle.gd_grammar.proofs.Readers.{◌&◌, Steady-pure, Steady-next, Steady-into, Steady-tags}
use Rattle.gd_grammar.proofs.Steady.{Steady-then, Steady-weaken, done, either}
use Rattle.gd_grammar.proofs.SteadyFields.{in_range, Steady-byte, Steady-half, Steady-word}

pub Steady-colour : Steady 4 colour_at
unfolding colour_at
Steady-colour = Steady-then 4 0 word_at (λ word bytes rest. ranged (is_colour word) word bytes rest) Steady-word
    (λ word. in_range 0 _ _)

pub Steady-fill : Steady 4 fill_at
unfolding fill_at
Steady-fill = Steady-then 4 0 word_at
    (λ word bytes rest. cond (word == 0xFFFFFFFF) (Ok (None, rest)) (ranged (is_colour word) (Some word) bytes rest))
    Steady-word
    (λ word. either (word == 0xFFFFFFFF) (λ _. done 0 None) (λ _. in_range 0 _ _))

Steady-thin : Steady 1 thin_at
unfolding thin_at then_at
Steady-thin = Steady-then 1 0 byte_at (λ width bytes rest. ranged (is_width width) width bytes rest) Steady-byte
    (λ width. in_range 0 _ _)

Steady-dash : Steady 1 dash_at
unfolding dash_at
Steady-dash = Steady-tags 0 dash_rows (Steady-pure _ & Steady-pure _ & Steady-pure _ & tt)

Steady-heads : Steady 1 heads_at
unfolding heads_at
Steady-heads = Steady-tags 0 heads_rows (Steady-pure _ & Steady-pure _ & Steady-pure _ & Steady-pure _ & tt)

Steady-round : Steady 4 round_at
unfolding round_at then_at
Steady-round = Steady-then 4 0 word_at
    (λ n bytes rest. ranged (is_round (none_or 0xFFFFFFFF n)) (none_or 0xFFFFFFFF n) bytes rest) Steady-word
    (λ n. in_range 0 _ _)

Steady-opacity : Steady 1 opacity_at
unfolding opacity_at then_at
Steady-opacity = Steady-then 1 0 byte_at (λ n bytes rest. ranged (is_opacity n) n bytes rest) Steady-byte
    (λ n. in_range 0 _ _)

Steady-letters : Steady 2 letters_at
unfolding letters_at then_at
Steady-letters = Steady-then 2 0 half_at (λ n bytes rest. ranged (is_letters (none_or 0 n)) (none_or 0 n) bytes rest)
    Steady-half (λ n. in_range 0 _ _)

Steady-align : Steady 1 align_at
unfolding align_at
Steady-align = Steady-tags 0 align_rows (Steady-pure _ & Steady-pure _ & Steady-pure _ & Steady-pure _ & tt)

pub Steady-look : Steady 19 look_at
unfolding look_at
Steady-look =
    Steady-next 4 Steady-colour (λ stroke. Steady-next 4 Steady-fill (λ fill. Steady-next 1 Steady-thin (λ width.
    Steady-next 1 Steady-dash (λ dash. Steady-next 1 Steady-heads (λ heads. Steady-next 4 Steady-round (λ round.
    Steady-next 1 Steady-opacity
    (λ opacity. Steady-next 2 Steady-letters (λ letters. Steady-next 1 Steady-align (λ align.
    Steady-pure _)))))))))

-- a byte, and what is set
Steady-set : {A : Type 0} (most : ℕ) {r : Reader A} → Steady most r → Steady (1 + most) (if_set r)
unfolding if_set
Steady-set most {r = r} s
    = Steady-tags most (set_rows r)
    (Steady-weaken 0 most _ (omega arith) (Steady-pure _) & Steady-into most Some s & tt)

pub Steady-looks : Steady 28 all_looks_at
unfolding all_looks_at
Steady-looks =
    Steady-next 5 (Steady-set 4 Steady-colour) (λ stroke. Steady-next 5 (Steady-set 4 Steady-fill) (λ fill.
    Steady-next 2 (Steady-set 1 Steady-thin) (λ width. Steady-next 2 (Steady-set 1 Steady-dash) (λ dash.
    Steady-next 2 (Steady-set 1 Steady-heads) (λ heads. Steady-next 5 (Steady-set 4 Steady-round) (λ round.
    Steady-next 2 (Steady-set 1 Steady-opacity) (λ opacity. Steady-next 3 (Steady-set 2 Steady-letters) (λ letters.
    Steady-next 2 (Steady-set 1 Steady-align) (λ align. Steady-pure _)))))))))
