-- A world in memory stands for the next world once a step has changed one of its sites, or its mail alone.
use Rattle.std.proofs.Common.{◌≡◌, ◌≢◌, ℕ, ◌+◌, ◌-◌, ◌≤◌, true, List, [], ◌∷◌, ◌++◌, length, set, slice_get, get_or}
use Rattle.std.proofs.Common.{Some, refl, sym, ap, ◌∙◌, subst, subst₂, arith, inl, inr}
use Rattle.std.proofs.lemmas.Bool.{cases_eq}
use Rattle.std.proofs.lemmas.List.{length-set, get_or-set_same, get_or-set_other}
use Rattle.std.proofs.lemmas.Option.{slice_get_within, get_or_from_slice_get, slice_get-get_or, slice_get_read}
use Rattle.gd_base.proofs.Lists.{Every-append}
use Rattle.gd_base.proofs.SiteLemmas.{is_site-bounds, is_site-within}
use Rattle.gd_base.specs.Sites.{is_site}
use Rattle.gd_grammar.specs.FrameBytes.{Frame}
use Rattle.gd_protocol.proofs.Interleavings.{kept_after}
use Rattle.gd_protocol.proofs.Lists.{put_same, put_other}
use Rattle.gd_protocol.specs.Kept.{Kept}
use Rattle.gd_protocol.specs.Sites.{IsRun}
use Rattle.gd_reference.specs.PerSite.{put}
use Rattle.gd_reference.specs.SlowSite.{SlowSite}
use Rattle.gd_reference.specs.World.{IsStep, Step, World, after, after_from, happens, start, with_site}
use Rattle.gd_site.specs.Sites.{StandsFor as SiteStands}
use Rattle.gd_takeback.specs.Standing.{StandsWith}
use Rattle.gd_world.specs.Standing.{HasWorld, StandsFor, WorldValue}
use Rattle.gd_world.specs.declared.member.Member.{Member}

after_from-push : (w : World) (steps : List Step) (step : Step)
    → after_from w (steps ++ step ∷ []) ≡ happens (after_from w steps) step
unfolding after_from
after_from-push w [] step = refl
after_from-push w (s ∷ steps) step = after_from-push (happens w s) steps step

-- what is read from a list with one element replaced
slice_get-set : {X : Type 0} (xs : List X) (i k : ℕ) (y x : X) → slice_get (set xs i y) k ≡ Some x → k ≡ i → x ≡ y
slice_get-set xs i k y x e same =
    let within = slice_get_within (set xs i y) k x e in
    sym (get_or_from_slice_get (set xs i y) k x x e) ∙ ap (λ (j : ℕ). get_or (set xs i y) j x) same
    ∙ get_or-set_same xs i y x (omega (arith, within, same, length-set xs i y))

slice_get-set_other : {X : Type 0} (xs : List X) (i k : ℕ) (y x : X) → slice_get (set xs i y) k ≡ Some x → k ≢ i
    → slice_get xs k ≡ Some x
slice_get-set_other xs i k y x e other =
    let within = slice_get_within (set xs i y) k x e in
    slice_get-get_or xs k x (omega (arith, within, length-set xs i y))
    ∙ ap Some (sym (get_or-set_other xs i k y x other) ∙ get_or_from_slice_get (set xs i y) k x x e)

-- the member at a site's place, by what was read there
pub member_read : (members : List Member) (site place : ℕ) (member : Member) → is_site (length members) site ≡ true
    → place ≡ site → member ≡ get_or members (place - 1) member → slice_get members (site - 1) ≡ Some member
member_read members site place member inside same read =
    let bounds = is_site-bounds (length members) site inside in
    slice_get_read members (length members) (site - 1) member refl (omega (arith, bounds.0, bounds.1))
    (read ∙ ap (λ (k : ℕ). get_or members (k - 1) member) same)

module _ (w : World) (v : WorldValue) (st : StandsFor w v) where
  pub kept : Kept w
  kept = subst Kept (sym st.reached) (kept_after w.sites w.session st.steps)

  pub run : IsRun w.sites w.session st.steps
  run = record { met = st.session; ranged = st.ranged }

  -- the member of a site
  pub member_of : (site : ℕ) (member : Member) → is_site w.sites site ≡ true
      → slice_get v.members (site - 1) ≡ Some member → StandsWith (w.at site) member.site member.backs
  member_of site member inside e =
      let bounds = is_site-bounds w.sites site inside in
      let same : site - 1 + 1 ≡ site = omega (arith, bounds.0) in
      subst (λ (t : ℕ). StandsWith (w.at t) member.site member.backs) same (st.each (site - 1) member e)

  module _ (step : Step) (ranged : IsStep step) where
    led_on : w ≡ after w.sites w.session st.steps → happens w step ≡ after w.sites w.session (st.steps ++ step ∷ [])
    led_on e = ap (λ (x : World). happens x step) e ∙ sym (after_from-push (start w.sites w.session) st.steps step)

    pub mailed : (frame : Frame) → happens w step ≡ record w { mail = w.mail ++ frame ∷ [] }
        → StandsFor (happens w step) (record { members = v.members; mail = v.mail ++ frame ∷ [] })
    mailed frame e =
        subst (λ (x : World). StandsFor x (record { members = v.members; mail = v.mail ++ frame ∷ [] })) (sym e)
        (record {
          session = st.session;
          steps = st.steps ++ step ∷ [];
          ranged = Every-append IsStep st.steps (step ∷ []) st.ranged (ranged, tt);
          reached = sym e ∙ led_on st.reached;
          members = st.members;
          each = st.each;
          mail = ap (λ (l : List Frame). l ++ frame ∷ []) st.mail;
        })

    module _ (k : ℕ) (slow : SlowSite) (member : Member) (now : StandsWith slow member.site member.backs) where
      each_changed : (j : ℕ) (m : Member) → slice_get (set v.members k member) j ≡ Some m
          → StandsWith (put w.at (k + 1) slow (j + 1)) m.site m.backs
      each_changed j m e =
          elim (cases_eq j k) [
            | inl same ↦
                let is_new : m ≡ member = slice_get-set v.members k j member m e same in
                let there : put w.at (k + 1) slow (j + 1)
                ≡ slow = put_same w.at (k + 1) slow (j + 1) (omega (arith, same)) in
                subst₂ (λ (x : SlowSite) (y : Member). StandsWith x y.site y.backs) (sym there) (sym is_new) now
            | inr other ↦
                let there : put w.at (k + 1) slow (j + 1)
                ≡ w.at (j + 1) = put_other w.at (k + 1) slow (j + 1) (λ e2. other (omega (arith, e2))) in
                subst (λ (x : SlowSite). StandsWith x m.site m.backs) (sym there)
                (st.each j m (slice_get-set_other v.members k j member m e other))
          ]

      pub changed : happens w step ≡ with_site w (k + 1) slow
          → StandsFor (happens w step) (record { members = set v.members k member; mail = v.mail })
      unfolding with_site
      changed e =
          subst (λ (x : World). StandsFor x (record { members = set v.members k member; mail = v.mail })) (sym e)
          (record {
            session = st.session;
            steps = st.steps ++ step ∷ [];
            ranged = Every-append IsStep st.steps (step ∷ []) st.ranged (ranged, tt);
            reached = sym e ∙ led_on st.reached;
            members = length-set v.members k member ∙ st.members;
            each = each_changed;
            mail = st.mail;
          })

-- ---- the site of a number, by what was read at its place

module _ (v now : WorldValue) (view : v ≡ now) (site : ℕ) (low : 1 ≤ site) (high : site ≤ length now.members)
    (place : ℕ) (same : place ≡ site) (member : Member) (read : member ≡ get_or v.members (place - 1) member) where
  module _ (w : World) (st : StandsFor w v) where
    among : is_site (length v.members) site ≡ true
    among = is_site-within (length v.members) site low
        (subst (λ (x : WorldValue). site ≤ length x.members) (sym view) high)

    there : StandsWith (w.at site) member.site member.backs
    there = member_of w v st site member (subst (λ (n : ℕ). is_site n site ≡ true) st.members among)
        (member_read v.members site place member among same read)

  pub site_stands : (w : World) → StandsFor w now → SiteStands (w.at site) member.site
  site_stands w st = (there w (subst (StandsFor w) (sym view) st)).site

  -- it knows how many sites there are
  pub site_counts : HasWorld v → member.site.peers.sites ≡ length now.members
  site_counts has =
      let named = (kept has.world v has.stands).named site in
      (there has.world has.stands).site.sites ∙ named.sites ∙ sym has.stands.members
      ∙ ap (λ (x : WorldValue). length x.members) view
