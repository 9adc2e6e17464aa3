-- Which members a group links where none has a greater id than one that is lower than the group's.
use Rattle.std.proofs.Common.{◌≡◌, ℕ, not, Bool, true, false, cond, ◌&&◌, List, [], ◌∷◌, map, suc, zero, refl, sym, ap}
use Rattle.std.proofs.Common.{◌∙◌}
use Rattle.std.specs.Prelude.{option_map, slice_get}
use Rattle.std.specs.List.{filter, list_all}
use Rattle.gd_base.specs.Stamps.{Stamp, is_before, is_same}
use Rattle.gd_base.specs.declared.member.Member.{Member}
use Rattle.gd_base.proofs.StampLemmas.{is_same-true, is_before-trans}
use Rattle.gd_base.proofs.StampOrder.{is_before-other_way}
use Rattle.gd_model.specs.Forms.{member_ties, tie_of}
use Rattle.gd_canvas.specs.Groupings.{are_up_to}
use Rattle.gd_canvas.specs.Touches.{id_at}

isnt : (b : Bool) → not b ≡ true → b ≡ false
isnt true e = cc
isnt false e = refl

first_passes : (s t : Bool) → (s && t) ≡ true → s ≡ true
first_passes true t e = refl
first_passes false t e = cc

rest_passes : (s t : Bool) → (s && t) ≡ true → t ≡ true
rest_passes true t e = e
rest_passes false t e = cc

-- what isn't above a lower one is lower
lower_by : (h i g : Stamp) (b : Bool) → is_same h i ≡ b → is_before h i ≡ false → is_before h g ≡ true
    → is_before i g ≡ true
lower_by h i g true same up low = ap (λ s. is_before s g) (sym (is_same-true h i same)) ∙ low
lower_by h i g false apart up low = is_before-trans i h g (is_before-other_way h i up apart) low

all_linked : (h g : Stamp) (ms : List Member) → are_up_to h ms → is_before h g ≡ true
    → filter (λ m. is_before m.id g) ms ≡ ms
all_linked h g [] up low = refl
all_linked h g (m ∷ ms) up low =
    let rest = filter (λ (n : Member). is_before n.id g) ms in
    let others = list_all (λ (n : Member). not (is_before h n.id)) ms in
    let up_to = isnt (is_before h m.id) (first_passes (not (is_before h m.id)) others up) in
    ap (λ b. cond b (m ∷ rest) rest) (lower_by h m.id g (is_same h m.id) refl up_to low)
    ∙ ap (λ ns. m ∷ ns) (all_linked h g ms (rest_passes (not (is_before h m.id)) others up) low)

pub all_tied : (h g : Stamp) (ms : List Member) → are_up_to h ms → is_before h g ≡ true
    → member_ties g ms ≡ map (tie_of g) ms
all_tied h g ms up low = ap (map (tie_of g)) (all_linked h g ms up low)

pub linked_id : (g : Stamp) (ms : List Member) (place : ℕ)
    → id_at (map (tie_of g) ms) place ≡ option_map (λ m. m.id) (slice_get ms place)
linked_id g [] place = refl
linked_id g (m ∷ ms) zero = refl
linked_id g (m ∷ ms) (suc place) = linked_id g ms place
