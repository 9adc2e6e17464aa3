-- The loops over the parts of a snapshot.
use Rattle.std.proofs.Common.{◌≡◌, ℕ, ◌+◌, ◌<◌, ◌≤◌, List, [], ◌∷◌, ◌++◌, length, None, refl, sym, ap, ◌∙◌, subst}
use Rattle.std.proofs.Common.{append_assoc, append-nil, arith, IsTrue, inl, inr}
use Rattle.std.proofs.lemmas.Bool.{cases_eq}
use Rattle.std.specs.FinMap as map_of
use Rattle.gd_base.specs.Sites.{is_site}
use Rattle.gd_base.specs.Stamps.{Stamp, stamp_cmp}
use Rattle.gd_base.proofs.SiteLemmas.{is_site-bounds, is_site-within}
use Rattle.gd_base.specs.StampTotal.{stamp_cmp-IsAntisymmetric, stamp_cmp-total}
use Rattle.gd_base.specs.Whole.{Object}
use Rattle.gd_model.specs.Board.{Board}
use Rattle.gd_protocol.proofs.Lists.{put_other, put_same}
use Rattle.gd_site.proofs.Numbers.{of_site-put}
use Rattle.gd_snapshots.specs.Snapshots.{Placed, known_of}
use Rattle.gd_snapshots.specs.declared.known.Known.{Known}
use Rattle.gd_stable.specs.Heard.{HeardValue, IsHeard, new_heard, of_site, put_at, with_heard}
use Rattle.gd_viewer.specs.Opening.{Hears, Rise}
use Rattle.gd_viewer.proofs.Rising.{find-behind, rise_front}
use Rattle.gd_viewer.proofs.Taking.{sized_with}

-- ---- what is heard of the first sites

pub record Hearing (known : List Known) (k : ℕ) (h : HeardValue) : Type 0 where
  pub sites : h.sites ≡ length known
  pub sized : IsHeard h
  pub counts : (t : ℕ) → 1 ≤ t → t ≤ k → of_site h.counts t ≡ (known_of known t).count
  pub sures : (t : ℕ) → 1 ≤ t → t ≤ k → of_site h.sures t ≡ (known_of known t).sure

pub hearing_start : (known : List Known) → length known ≤ 16 → Hearing known 0 (new_heard (length known))
hearing_start known few = record {
  sites = refl;
  sized = record { sites_to = few; counts = refl; sures = refl };
  counts = λ t low high. absurd (omega (arith, low, high));
  sures = λ t low high. absurd (omega (arith, low, high));
}

-- the numbers of the first sites, with that of the next one put behind
next_number : (numbers : List ℕ) (f : ℕ → ℕ) (k value : ℕ) → length numbers ≡ 16 → k < 16 → value ≡ f (k + 1)
    → ((t : ℕ) → 1 ≤ t → t ≤ k → of_site numbers t ≡ f t)
    → (t : ℕ) → 1 ≤ t → t ≤ k + 1 → of_site (put_at numbers (k + 1) value) t ≡ f t
next_number numbers f k value long room is were t low high =
    let now = of_site-put numbers (k + 1) value t long (omega arith) (omega (arith, room)) low in
    elim (cases_eq t (k + 1)) [
      | inl here ↦ now ∙ put_same (of_site numbers) (k + 1) value t here ∙ is ∙ ap f (sym here)
      | inr apart ↦ now ∙ put_other (of_site numbers) (k + 1) value t apart ∙ were t low (omega (arith, high, apart))
    ]

module _ (known : List Known) (k : ℕ) (h : HeardValue) (s : Hearing known k h) where
  pub hearing_inside : k < length known → IsTrue (is_site h.sites (k + 1))
  hearing_inside inside = is_site-within h.sites (k + 1) (omega arith) (omega (arith, inside, s.sites))

  pub hearing_next : k < length known → (one : Known) → one ≡ known_of known (k + 1)
      → Hearing known (k + 1) (with_heard h (k + 1) one.count one.sure)
  hearing_next inside one is = record {
    sites = s.sites;
    sized = sized_with h (k + 1) one.count one.sure s.sized;
    counts = next_number h.counts (λ t. (known_of known t).count) k one.count s.sized.counts
        (omega (arith, inside, s.sites, s.sized.sites_to)) (ap (λ (x : Known). x.count) is) s.counts;
    sures = next_number h.sures (λ t. (known_of known t).sure) k one.sure s.sized.sures
        (omega (arith, inside, s.sites, s.sized.sites_to)) (ap (λ (x : Known). x.sure) is) s.sures;
  }

  pub hearing_end : length known ≤ k → Hears known h
  hearing_end all = record {
    sites = s.sites;
    counts = λ t inside. let b = is_site-bounds (length known) t inside in s.counts t b.0 (omega (arith, b.1, all));
    sures = λ t inside. let b = is_site-bounds (length known) t inside in s.sures t b.0 (omega (arith, b.1, all));
    sized = s.sized;
  }

-- ---- the objects that are put

pub record Placing (all left : List Placed) (board : Board) : Type 0 where
  pub done : List Placed
  pub split : all ≡ done ++ left
  pub board_is : board ≡ map_of.from_entries done

pub placing_start : (all : List Placed) (board : Board) → board ≡ map_of.empty → Placing all all board
placing_start all board empty = record { done = []; split = refl; board_is = empty }

module _ {all were left : List Placed} {board : Board} (p : Placing all were board) (rise : Rise (λ p. p.0) all)
    {id : Stamp} {object : Object} (first : were ≡ (id, object) ∷ left) where
  split_now : all ≡ p.done ++ (id, object) ∷ left
  split_now = p.split ∙ ap (λ (l : List Placed). p.done ++ l) first

  is_new : map_of.find stamp_cmp id p.done ≡ None
  is_new = find-behind id p.done
      (rise_front (λ p. p.0) p.done (id, object) left (subst (Rise (λ p. p.0)) split_now rise))

  pub placing_absent : map_of.get board id ≡ None
  placing_absent = ap (λ (b : Board). map_of.get b id) p.board_is ∙ map_of.get-from_entries stamp_cmp-total p.done id
      ∙ is_new

  pub placing_next : (new : Board) → new ≡ map_of.insert board id object → Placing all left new
  placing_next new is = record {
    done = p.done ++ (id, object) ∷ [];
    split = split_now ∙ sym (append_assoc p.done ((id, object) ∷ []) left);
    board_is = is ∙ ap (λ (b : Board). map_of.insert b id object) p.board_is
        ∙ sym (map_of.from_entries_push stamp_cmp-total stamp_cmp-IsAntisymmetric p.done id object is_new);
  }

pub placing_end : {all left : List Placed} {board : Board} → Placing all left board → left ≡ []
    → board ≡ map_of.from_entries all
placing_end p none = p.board_is
    ∙ ap map_of.from_entries (sym (append-nil p.done) ∙ ap (λ (l : List Placed). p.done ++ l) (sym none) ∙ sym p.split)
