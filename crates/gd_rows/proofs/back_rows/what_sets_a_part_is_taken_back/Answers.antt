use Rattle.std.proofs.Common.{refl}
use Rattle.std.specs.Prelude.{[], ◌∷◌}
use Rattle.gd_lines.specs.declared.command.Turn.TheVariants.{Undo, Redo}
use Rattle.gd_rows.proofs.ByDrawing.{drawn_compute}
use Rattle.gd_rows.proofs.Computing.{computing}
use Rattle.gd_rows.proofs.Turned.{dressed-drawn, each_site, kept_of, shown_of, turn-at, turned-at, turned_drawn}
use Rattle.gd_rows.specs.WorkedBacks.{backs_of, dressed_backs, dressed_text, set_and_taken}
use Rattle.gd_rows.proofs.back_rows.what_sets_a_part_is_taken_back.Goals as goal

pub returns-clause-backs : goal.returns-clause-backs
unfolding computing drawn_compute turned_drawn
returns-clause-backs c =
    each_site set_and_taken (λ r. dressed-drawn r.edit) kept_of (λ r. backs_of (r.back ∷ dressed_backs) []) (
      refl,
      (
        refl,
        (
          refl,
          (
            refl,
            (refl, (refl, (refl, (refl, (refl, (refl, (refl, (refl, (refl, (refl, (refl, (refl, tt)))))))))))),
          ),
        ),
      ),
    )

pub returns-clause-taken : goal.returns-clause-taken
unfolding computing drawn_compute turned_drawn
returns-clause-taken c =
    each_site set_and_taken (λ r. turn-at (dressed-drawn r.edit) Undo) shown_of (λ r. dressed_text) (
      refl,
      (
        refl,
        (
          refl,
          (
            refl,
            (refl, (refl, (refl, (refl, (refl, (refl, (refl, (refl, (refl, (refl, (refl, (refl, tt)))))))))))),
          ),
        ),
      ),
    )

pub returns-clause-again : goal.returns-clause-again
unfolding computing drawn_compute turned_drawn
returns-clause-again c =
    each_site set_and_taken (λ r. turn-at (dressed-drawn r.edit) Undo) kept_of
    (λ r. backs_of dressed_backs (r.again ∷ [])) (
      refl,
      (
        refl,
        (
          refl,
          (
            refl,
            (refl, (refl, (refl, (refl, (refl, (refl, (refl, (refl, (refl, (refl, (refl, (refl, tt)))))))))))),
          ),
        ),
      ),
    )

pub returns-clause-redone : goal.returns-clause-redone
unfolding computing drawn_compute turned_drawn
returns-clause-redone c =
    each_site set_and_taken (λ r. turned-at (dressed-drawn r.edit) (Undo ∷ Redo ∷ [])) kept_of
    (λ r. backs_of (r.back ∷ dressed_backs) []) (
      refl,
      (
        refl,
        (
          refl,
          (
            refl,
            (refl, (refl, (refl, (refl, (refl, (refl, (refl, (refl, (refl, (refl, (refl, (refl, tt)))))))))))),
          ),
        ),
      ),
    )
