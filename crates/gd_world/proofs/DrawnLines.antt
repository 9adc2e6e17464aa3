-- The line of a churn's step by the number that was drawn for it.
use Rattle.std.proofs.Common.{◌≡◌, ◌⊎◌, inl, inr, ℕ, ◌<◌, ◌≤◌, List, [], ◌∷◌, length, sym, ◌∙◌, ap, arith}
use Rattle.std.proofs.lemmas.Bool.Decides.{nat_tests}
use Rattle.std.specs.Prelude.{None, true}
use Rattle.rand_pcg.specs.Lcg.{Lcg}
use Rattle.gd_base.specs.Stamps.{Stamp}
use Rattle.gd_base.specs.declared.content.Content.TheVariants.{ToFlag, ToRank}
use Rattle.gd_base.specs.declared.content.Side.TheVariants.{Top}
use Rattle.gd_base.specs.declared.op.Op.TheVariants as wish
use Rattle.gd_lines.specs.Edits.{Edit}
use Rattle.gd_lines.specs.declared.command.Turn.TheVariants.{Undo, Redo}
use Rattle.gd_worlds.specs.Churn.{Draws, asks, asks_of, change, connect, create, deliver, group, known, line_for, move}
use Rattle.gd_worlds.specs.Churn.{reconnect, send, stroke, style, turns, write}
use Rattle.gd_world.specs.Drawn.{IsOfOne, edit_at}

-- ---- what number stands for what

module _ (made : List Stamp) (mails site number : ℕ) where
  pub line_creates : number < 4 → line_for made mails site number ≡ asks site create
  unfolding line_for
  line_creates h = grind (arith, nat_tests)

  pub line_moves : 4 ≤ number → number < 7 → line_for made mails site number ≡ asks_of made site move
  unfolding line_for
  line_moves h k = grind (arith, nat_tests)

  pub line_deletes : number ≡ 7 → line_for made mails site number ≡ asks_of made site (change wish.Delete)
  unfolding line_for
  line_deletes e = rw e

  pub line_raises : number ≡ 8
      → line_for made mails site number ≡ asks_of made site (change (λ id. wish.Set id (ToRank Top)))
  unfolding line_for
  line_raises e = rw e

  pub line_groups : number ≡ 9 → line_for made mails site number ≡ asks_of made site group
  unfolding line_for
  line_groups e = rw e

  pub line_ungroups : number ≡ 10
      → line_for made mails site number ≡ asks_of made site (change (λ id. wish.Set id (ToFlag true)))
  unfolding line_for
  line_ungroups e = rw e

  pub line_strokes : number ≡ 11 → line_for made mails site number ≡ asks_of made site stroke
  unfolding line_for
  line_strokes e = rw e

  pub line_sends : 12 ≤ number → number < 14 → line_for made mails site number ≡ send site
  unfolding line_for
  line_sends h k = grind (arith, nat_tests)

  pub line_delivers : 14 ≤ number → number < 16 → line_for made mails site number ≡ deliver mails
  unfolding line_for
  line_delivers h k = grind (arith, nat_tests)

  pub line_undoes : number ≡ 16 → line_for made mails site number ≡ turns site Undo
  unfolding line_for
  line_undoes e = rw e

  pub line_redoes : number ≡ 17 → line_for made mails site number ≡ turns site Redo
  unfolding line_for
  line_redoes e = rw e

  pub line_connects : number ≡ 18 → line_for made mails site number ≡ asks_of made site connect
  unfolding line_for
  line_connects e = rw e

  pub line_reconnects : number ≡ 19 → line_for made mails site number ≡ asks_of made site reconnect
  unfolding line_for
  line_reconnects e = rw e

  pub line_styles : number ≡ 20 → line_for made mails site number ≡ asks_of made site style
  unfolding line_for
  line_styles e = rw e

  pub line_writes : 21 ≤ number → line_for made mails site number ≡ asks_of made site write
  unfolding line_for
  line_writes h = grind (arith, nat_tests)

pub line_idles : (mails site number : ℕ) → 4 ≤ number → (number < 12) ⊎ (18 ≤ number)
    → line_for [] mails site number ≡ known None
unfolding line_for
line_idles mails site number h (inl k) = grind (arith, nat_tests)
line_idles mails site number h (inr k) = grind (arith, nat_tests)

-- ---- edits of what was picked

pub line_idles_at : (made : List Stamp) (mails site number : ℕ) (g : Lcg) → length made ≡ 0 → 4 ≤ number
    → (number < 12) ⊎ (18 ≤ number)
    → (None, g) ≡ line_for made mails site number g
line_idles_at [] mails site number g none h k = sym (ap (λ d. d g) (line_idles mails site number h k))
line_idles_at (first ∷ rest) mails site number g none h k = absurd (omega arith)

module _ (g g' : Lcg) where
  -- an edit of what a pick gives
  pub changed : (edit : Stamp → Edit) (made : List Stamp) (id : Stamp) → IsOfOne (λ picked. picked) made id g g'
      → IsOfOne (change edit) made (edit id) g g'
  changed edit [] id h = absurd h
  changed edit (first ∷ rest) id h = ap (λ (p : Stamp × Lcg). (edit p.0, p.1)) h

  -- a site is asked for an edit that was drawn so
  asked : (site : ℕ) (draw : Draws Stamp → Draws Edit) (made : List Stamp) (edit : Edit) → IsOfOne draw made edit g g'
      → (edit_at site edit, g') ≡ asks_of made site draw g
  asked site draw [] edit h = absurd h
  asked site draw (first ∷ rest) edit h = ap (λ (p : Edit × Lcg). (edit_at site p.0, p.1)) h

  pub line_of_one : (made : List Stamp) (mails site number : ℕ) (draw : Draws Stamp → Draws Edit) (edit : Edit)
      → line_for made mails site number ≡ asks_of made site draw → IsOfOne draw made edit g g'
      → (edit_at site edit, g') ≡ line_for made mails site number g
  line_of_one made mails site number draw edit e h = asked site draw made edit h ∙ sym (ap (λ d. d g) e)
