-- A chain that is followed link by link.
use Rattle.std.proofs.Common.{◌≡◌, ℕ, suc, Bool, true, false, cond, Option, None, Some, refl, sym, ap, ◌∙◌, arith, pos}
use Rattle.std.proofs.Common.{◌+ℤ◌}
use Rattle.std.proofs.lemmas.Int.{ints}
use Rattle.std.specs.Prelude.{option_map, is_some}
use Rattle.std.specs.FinMap as map_of
use Rattle.gd_base.specs.Stamps.{stamp_cmp, is_before}
use Rattle.gd_base.specs.Stamps.{Stamp}
use Rattle.gd_base.specs.declared.object.Link.{Link}
use Rattle.gd_base.specs.Whole.{Object}
use Rattle.gd_model.specs.Drawing.{Drawing}
use Rattle.gd_model.specs.Shown.{above_in, above_by, through}
use Rattle.gd_model.specs.declared.above.Above.{Above}
use Rattle.gd_view.specs.Chains.{first_parent, parent_by, with_link, group_in}

-- what stands above, with the sum of the part of the chain before it
abbrev joined_by : Above → Above → Above
joined_by s a = record { parent = first_parent s.parent a.parent; dx = s.dx +ℤ a.dx; dy = s.dy +ℤ a.dy }

-- the same, where the rest is known
abbrev joined : Above → Option Above → Option Above
joined s x = option_map (joined_by s) x

-- the sum with one link more, at the far end of the chain
abbrev pub after_link : Above → Link → Object → Above
after_link s l g = with_link s (first_parent s.parent (parent_by l g)) l g

-- the part of a chain that is known and the rest of it, along at most n links, make the whole
pub record Followed (n : ℕ) (d : Drawing) (id : Stamp) (start : Option Link) (left : ℕ) (sum : Above) (below : Stamp)
    (next : Option Link) : Type 0 where
  pub whole : joined sum (above_in left d below next) ≡ above_in n d id start

-- an empty sum adds nothing
started : (x : Option Above) → joined (record { parent = None; dx = pos 0; dy = pos 0 }) x ≡ x
started None = refl
started (Some a) =
    let xs : pos 0 +ℤ a.dx ≡ a.dx = omega (arith, ints) in
    let ys : pos 0 +ℤ a.dy ≡ a.dy = omega (arith, ints) in
    λ i. Some record { parent = a.parent; dx = xs i; dy = ys i }

-- before the first link
pub start : (n : ℕ) (d : Drawing) (id : Stamp) (link : Option Link) (left : ℕ) → left ≡ n
    → Followed n d id link left (record { parent = None; dx = pos 0; dy = pos 0 }) id link
start n d id link left e = record { whole = started (above_in left d id link) ∙ ap (λ m. above_in m d id link) e }

-- the first parent along two parts of a chain
parents : (p : Option Stamp) (b : Bool) (l : Stamp) (q : Option Stamp)
    → first_parent p (cond b q (Some l)) ≡ first_parent (first_parent p (cond b None (Some l))) q
parents None true l q = refl
parents None false l q = refl
parents (Some r) b l q = refl

-- a link in front of the rest is one behind the sum
one_more : (s : Above) (l : Link) (g : Object) (x : Option Above)
    → joined s (option_map (above_by l g) x) ≡ joined (after_link s l g) x
one_more s l g None = refl
one_more s l g (Some a) =
    let xs : s.dx +ℤ ((l.dx +ℤ g.x) +ℤ a.dx) ≡ (s.dx +ℤ (l.dx +ℤ g.x)) +ℤ a.dx = omega (arith, ints) in
    let ys : s.dy +ℤ ((l.dy +ℤ g.y) +ℤ a.dy) ≡ (s.dy +ℤ (l.dy +ℤ g.y)) +ℤ a.dy = omega (arith, ints) in
    λ i. Some record { parent = parents s.parent g.dissolved l.parent a.parent i; dx = xs i; dy = ys i }

-- no group, nothing above
pub by_group : (l : Link) (rest : Object → Option Above) (t : Bool) (x : Option Object)
    → cond t (through l x rest) None ≡ through l (cond t x None) rest
by_group l rest true x = refl
by_group l rest false x = refl

-- one link of the definition
above_step : (m : ℕ) (d : Drawing) (below : Stamp) (l : Link)
    → above_in (suc m) d below (Some l) ≡ through l (group_in d below l) (λ g. above_in m d l.parent g.link)
above_step m d below l
    = by_group l (λ g. above_in m d l.parent g.link) (is_before below l.parent) (map_of.find stamp_cmp l.parent d)

-- one link is followed
pub step : {n : ℕ} {d : Drawing} {id : Stamp} {start : Option Link} {left : ℕ} {sum : Above} {below : Stamp}
    (next : Option Link) → Followed n d id start left sum below next
    → (l : Link) (o : Object) (m : ℕ) (s : Above) → next ≡ Some l → Some o ≡ group_in d below l → left ≡ suc m
    → s ≡ after_link sum l o → Followed n d id start m s l.parent o.link
step {d = d} {sum = sum} {below = below} next f l o m s e g h is =
    record {
      whole =
          ap (λ t. joined t (above_in m d l.parent o.link)) is
          ∙ sym (one_more sum l o (above_in m d l.parent o.link))
          ∙ ap (λ x. joined sum (through l x (λ g. above_in m d l.parent g.link))) g
          ∙ ap (joined sum) (sym (above_step m d below l))
          ∙ (λ i. joined sum (above_in (sym h i) d below (sym e i)))
          ∙ f.whole;
    }

-- a link leads nowhere
pub lost : {n : ℕ} {d : Drawing} {id : Stamp} {start : Option Link} {left : ℕ} {sum : Above} {below : Stamp}
    (next : Option Link) → Followed n d id start left sum below next
    → (l : Link) (m : ℕ) → next ≡ Some l → None ≡ group_in d below l → left ≡ suc m → None ≡ above_in n d id start
lost {d = d} {sum = sum} {below = below} next f l m e g h =
    ap (λ x. joined sum (through l x (λ g. above_in m d l.parent g.link))) g
    ∙ ap (joined sum) (sym (above_step m d below l))
    ∙ (λ i. joined sum (above_in (sym h i) d below (sym e i)))
    ∙ f.whole

-- one link in front of the rest of a chain
pub in_front : (l : Link) (g : Object) (a : Above)
    → with_link a (first_parent (parent_by l g) a.parent) l g ≡ above_by l g a
in_front l g a =
    let xs : a.dx +ℤ (l.dx +ℤ g.x) ≡ (l.dx +ℤ g.x) +ℤ a.dx = omega (arith, ints) in
    let ys : a.dy +ℤ (l.dy +ℤ g.y) ≡ (l.dy +ℤ g.y) +ℤ a.dy = omega (arith, ints) in
    λ i. record { parent = by g.dissolved i; dx = xs i; dy = ys i }
  where
    by : (t : Bool) → first_parent (cond t None (Some l.parent)) a.parent ≡ cond t a.parent (Some l.parent)
    by true = refl
    by false = refl

-- a link that is left where no more may be followed
pub cut : {n : ℕ} {d : Drawing} {id : Stamp} {start : Option Link} {left : ℕ} {sum : Above} {below : Stamp}
    (next : Option Link) → Followed n d id start left sum below next
    → is_some next ≡ true → left ≡ 0 → None ≡ above_in n d id start
cut None f e h = cc
cut {d = d} {sum = sum} {below = below} (Some l) f e h = ap (λ m. joined sum (above_in m d below (Some l))) (sym h)
    ∙ f.whole
