-- What holds of each content, and of two of which one has the parts of the other, in each object.
use Rattle.std.proofs.Common.{◌≡◌, pos, true, false, [], Option, Some, None, refl}
use Rattle.std.specs.Prelude.{is_some, unwrap_or}
use Rattle.gd_base.specs.Looks.{given, instead, kept, laid, put_over, taken, within}
use Rattle.gd_base.specs.declared.content.Content.TheVariants as content
use Rattle.gd_base.specs.declared.look.Dash.TheVariants.{Solid}
use Rattle.gd_base.specs.declared.look.Heads.TheVariants.{Bare}
use Rattle.gd_base.specs.declared.look.Look.{Look}
use Rattle.gd_base.specs.declared.look.Looks.{Looks}
use Rattle.gd_base.specs.declared.object.Kind.{Kind}
use Rattle.gd_base.specs.declared.object.Link.{Link}
use Rattle.gd_base.specs.Whole.{Object}
use Rattle.gd_base.specs.declared.rank.Rank.TheVariants.{High}
use Rattle.gd_model.specs.Contents.{Content}
use Rattle.gd_model.specs.Objects.{fits, have_parts, laid_over, old, part_within, parts_of, put, with_link}

pub put_kind : (c : Content) (o : Object) → (put c o).kind ≡ o.kind
put_kind (content.ToPlace x y) o = refl
put_kind c o = refl

pub put_link : (c : Content) (o : Object) → (put c o).link ≡ o.link
put_link (content.ToPlace x y) o = refl
put_link c o = refl

pub old_tied : (c : Content) (link : Option Link) (o : Object) → old c (with_link link o) ≡ old c o
old_tied (content.ToPlace x y) link o = refl
old_tied c link o = refl

pub old_fits : (c : Content) (o : Object) (k : Kind) → fits (old c o) k ≡ fits c k
old_fits (content.ToPlace x y) o k = refl
old_fits c o k = refl

-- ---- one part of a look

-- what is put back stands there again
back : {A : Type 0} (set : Option A) (x : A) → unwrap_or (instead set x) (unwrap_or set x) ≡ x
back None x = refl
back (Some y) x = refl

-- what is set over what was set
over : {A : Type 0} (d c : Option A) (x : A) → (is_some c ≡ true → is_some d ≡ true)
    → unwrap_or d (unwrap_or c x) ≡ unwrap_or d x
over None None x h = refl
over None (Some y) x h = let e = h refl in cc
over (Some z) c x h = refl

found_within : {A : Type 0} (d c : Option A) (x : A) → (is_some c ≡ true → is_some d ≡ true)
    → kept c (instead d x) ≡ instead c x
found_within None None x h = refl
found_within None (Some y) x h = let e = h refl in cc
found_within (Some z) None x h = refl
found_within (Some z) (Some y) x h = refl

found_over : {A : Type 0} (d c : Option A) (x : A) → instead d (unwrap_or c x) ≡ put_over c (instead d x)
found_over None c x = refl
found_over (Some z) c x = refl

-- ---- all parts of a look

given_back : (l : Looks) (k : Look) → given (taken l k) (given l k) ≡ k
given_back l k = λ i. record {
  stroke = back l.stroke k.stroke i;
  fill = back l.fill k.fill i;
  width = back l.width k.width i;
  dash = back l.dash k.dash i;
  heads = back l.heads k.heads i;
  round = back l.round k.round i;
  opacity = back l.opacity k.opacity i;
  letters = back l.letters k.letters i;
  align = back l.align k.align i;
}

-- each part that c sets is set by d
pub record AreSetBy (d c : Looks) : Type 0 where
  pub stroke : is_some c.stroke ≡ true → is_some d.stroke ≡ true
  pub fill : is_some c.fill ≡ true → is_some d.fill ≡ true
  pub width : is_some c.width ≡ true → is_some d.width ≡ true
  pub dash : is_some c.dash ≡ true → is_some d.dash ≡ true
  pub heads : is_some c.heads ≡ true → is_some d.heads ≡ true
  pub round : is_some c.round ≡ true → is_some d.round ≡ true
  pub opacity : is_some c.opacity ≡ true → is_some d.opacity ≡ true
  pub letters : is_some c.letters ≡ true → is_some d.letters ≡ true
  pub align : is_some c.align ≡ true → is_some d.align ≡ true

pub given_over : (d c : Looks) (k : Look) → AreSetBy d c → given d (given c k) ≡ given d k
given_over d c k h = λ i. record {
  stroke = over d.stroke c.stroke k.stroke h.stroke i;
  fill = over d.fill c.fill k.fill h.fill i;
  width = over d.width c.width k.width h.width i;
  dash = over d.dash c.dash k.dash h.dash i;
  heads = over d.heads c.heads k.heads h.heads i;
  round = over d.round c.round k.round h.round i;
  opacity = over d.opacity c.opacity k.opacity h.opacity i;
  letters = over d.letters c.letters k.letters h.letters i;
  align = over d.align c.align k.align h.align i;
}

pub taken_within : (d c : Looks) (k : Look) → AreSetBy d c → within c (taken d k) ≡ taken c k
taken_within d c k h = λ i. record {
  stroke = found_within d.stroke c.stroke k.stroke h.stroke i;
  fill = found_within d.fill c.fill k.fill h.fill i;
  width = found_within d.width c.width k.width h.width i;
  dash = found_within d.dash c.dash k.dash h.dash i;
  heads = found_within d.heads c.heads k.heads h.heads i;
  round = found_within d.round c.round k.round h.round i;
  opacity = found_within d.opacity c.opacity k.opacity h.opacity i;
  letters = found_within d.letters c.letters k.letters h.letters i;
  align = found_within d.align c.align k.align h.align i;
}

pub taken_over : (d c : Looks) (k : Look) → taken d (given c k) ≡ laid c (taken d k)
taken_over d c k = λ i. record {
  stroke = found_over d.stroke c.stroke k.stroke i;
  fill = found_over d.fill c.fill k.fill i;
  width = found_over d.width c.width k.width i;
  dash = found_over d.dash c.dash k.dash i;
  heads = found_over d.heads c.heads k.heads i;
  round = found_over d.round c.round k.round i;
  opacity = found_over d.opacity c.opacity k.opacity i;
  letters = found_over d.letters c.letters k.letters i;
  align = found_over d.align c.align k.align i;
}

pub put_old : (c : Content) (o : Object) → put (old c o) (put c o) ≡ o
put_old (content.ToPlace x y) o = refl
put_old (content.ToLooks looks) o = λ i. record o { look = given_back looks o.look i }
put_old c o = refl

-- ---- of the parts of another one

-- the first has all parts of the second; a look and another content have none in common
abbrev pub IsOver : Content → Content → Type 0
IsOver (content.ToLooks d) (content.ToLooks c) = AreSetBy d c
IsOver (content.ToLooks d) c = false ≡ true
IsOver d (content.ToLooks c) = false ≡ true
IsOver d c = have_parts (parts_of d) (parts_of c) ≡ true

pub put_put : (d c : Content) (o : Object) → IsOver d c → put d (put c o) ≡ put d o
put_put (content.ToLooks d) (content.ToLooks c) o h = λ i. record o { look = given_over d c o.look h i }
put_put d (content.ToLooks c) o h = cc
put_put d c o h = cc

-- the second one finds of its parts what the first one does
pub old_within : (d c : Content) (o : Object) → IsOver d c → part_within c (old d o) ≡ old c o
old_within (content.ToLooks d) (content.ToLooks c) o h = λ i. content.ToLooks (taken_within d c o.look h i)
old_within d (content.ToLooks c) o h = cc
old_within d c o h = cc

-- and behind it the first one finds what it leaves
pub old_over : (d c : Content) (o : Object) → IsOver d c → old d (put c o) ≡ laid_over c (old d o)
old_over (content.ToLooks d) (content.ToLooks c) o h = λ i. content.ToLooks (taken_over d c o.look i)
old_over d (content.ToLooks c) o h = cc
old_over d c o h = cc

pub fits_alike : (d c : Content) (k : Kind) → IsOver d c → fits d k ≡ fits c k
fits_alike (content.ToLooks d) (content.ToLooks c) k h = refl
fits_alike d (content.ToLooks c) k h = cc
fits_alike d c k h = cc

-- ---- of all

-- every part of a look
abbrev every : Looks
every = record {
  stroke = Some 0;
  fill = Some None;
  width = Some 0;
  dash = Some Solid;
  heads = Some Bare;
  round = Some None;
  opacity = Some 0;
  letters = Some None;
  align = Some None;
}

-- an object is its kind, its link and what stands in its parts
pub same_object : (x y : Object) → x.kind ≡ y.kind → x.link ≡ y.link → ((c : Content) → old c x ≡ old c y) → x ≡ y
same_object x y kind link olds =
    λ i. put (olds (content.ToPlace (pos 0) (pos 0)) i)
    (put (olds (content.ToSize (pos 0) (pos 0)) i)
    (put (olds (content.ToLooks every) i)
    (put (olds (content.ToText []) i)
    (put (olds (content.ToFlag false) i)
    (put (olds (content.ToEnds None) i)
    (put (olds (content.ToRank (High record { clock = 0; site = 0 })) i)
    (record x { kind = kind i; link = link i })))))))
