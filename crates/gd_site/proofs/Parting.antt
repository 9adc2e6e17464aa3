-- Whether a frame shows a parting, and that a site notes one.
use Rattle.std.proofs.Common.{◌≡◌, ◌∙◌, ℕ, suc, ◌+◌, ◌≤◌, Bool, false, cond, List, [], ◌∷◌, length, get_or-set_same}
use Rattle.std.proofs.Common.{get_or-set_other, Option, None, Some, Ok, Err, IsTrue, refl, sym, ap, subst, arith}
use Rattle.std.proofs.Common.{eqb-true, ◌==◌, nat_le, nat_lt}
use Rattle.std.proofs.lemmas.Bool.{and_parts, leb-false}
use Rattle.gd_base.proofs.SiteLemmas.{is_site-bounds}
use Rattle.gd_base.specs.Sites.{IsSite, is_site}
use Rattle.gd_base.specs.declared.offer.Offer.{Offer}
use Rattle.gd_base.specs.declared.offer.Offer.TheVariants.{Next, Repeat, Gap, Backdated}
use Rattle.gd_base.specs.declared.refusal.FrameFault.{FrameFault}
use Rattle.gd_base.specs.declared.verdict.Verdict.{Verdict}
use Rattle.gd_base.specs.declared.verdict.Verdict.TheVariants.{Parted, Refused, Taken}
use Rattle.gd_check.specs.Checks.{check}
use Rattle.gd_events.specs.Events.{Event}
use Rattle.gd_grammar.proofs.ChainLemmas.{chained-append}
use Rattle.gd_grammar.specs.Chains.{chained}
use Rattle.gd_grammar.specs.Drawings.{drawings}
use Rattle.gd_grammar.specs.FrameBytes.{AreInTurn, Frame, IsFrame, last_of}
use Rattle.gd_grammar.specs.Kinds.{spelling}
use Rattle.gd_grammar.specs.Reading.{AllFollow}
use Rattle.gd_grammar.specs.declared.frame.Head.{Head}
use Rattle.gd_grammar.specs.declared.frame.Last.{Last}
use Rattle.gd_protocol.proofs.Chains.{AllBy}
use Rattle.gd_protocol.proofs.Lists.{put_cases, put_other, put_same}
use Rattle.gd_protocol.proofs.WellSites.{IsAccepted-from_none, well_parted}
use Rattle.gd_reference.specs.Offers.{after_offer, all_arrived, arrived, offer, offered, refusal, shows_parting}
use Rattle.gd_reference.specs.Offers.{verdict, verdict_by, with_event, with_parting}
use Rattle.gd_reference.specs.PerSite.{put}
use Rattle.gd_reference.specs.SlowSite.{SlowSite, count, held_check, made_by}
use Rattle.gd_site.proofs.Chained.{held_check_is}
use Rattle.gd_site.proofs.Finishing.{checked_none, checked_some, refused_is}
use Rattle.gd_site.proofs.Growing.{made_by-same, made_more}
use Rattle.gd_site.proofs.Stands.{other_in, other_of}
use Rattle.gd_site.specs.Answers.{checked}
use Rattle.gd_site.specs.Foreseen.{differs, foreseen, foreseen_by, foreseen_offer, held_of, parts_by, verdict_of}
use Rattle.gd_site.specs.Judged.{refused_by}
use Rattle.gd_site.specs.Sites.{HasSlowSite, SiteValue, StandsFor}
use Rattle.gd_site.specs.declared.foreseen.Foreseen.{Foreseen}
use Rattle.gd_stable.specs.Partings as partings
use Rattle.gd_stable.specs.Partings.{parted_at}
use Rattle.gd_stable.specs.Peers.{IsOther}

-- ---- what would be held of a sender

-- the next event has the next number
offered_next : (count sure number clock : ℕ) → offered count sure number clock ≡ Next → number ≡ count + 1
unfolding offered
offered_next count sure number clock h =
    go (nat_le number count) refl (nat_lt (count + 1) number) refl (nat_le clock sure) h
  where
    go : (a : Bool) → nat_le number count ≡ a → (b : Bool) → nat_lt (count + 1) number ≡ b → (c : Bool)
        → cond a Repeat (cond b Gap (cond c (Backdated clock sure) Next)) ≡ Next → number ≡ count + 1
    go false p false q false n = omega (arith, leb-false number count p, leb-false (suc (count + 1)) number q)
    go a p b q c n = cc

-- so with it these are held
pub with_next : (so : Foreseen) (e : Event) → foreseen_offer so e ≡ Next → (count sure word : ℕ) → count ≡ e.number
    → sure ≡ e.stamp.clock → word ≡ check so.check (spelling drawings e)
    → record { count = count; sure = sure; check = word } ≡ foreseen_by Next so e
with_next so e next count sure word count_is sure_is word_is =
    let counted = count_is ∙ offered_next so.count so.sure e.number e.stamp.clock next in
    λ i. record { count = counted i; sure = sure_is i; check = word_is i }

-- what the reference site holds of a site
abbrev pub known : SlowSite → ℕ → Foreseen
known slow site = record { count = count slow site; sure = slow.sure site; check = held_check slow site }

module _ (slow : SlowSite) (e : Event) where
  known-check : held_check (with_event slow e) e.stamp.site ≡ check (held_check slow e.stamp.site) (spelling drawings e)
  unfolding chained
  known-check =
      ap (chained drawings 0) (made_by-same slow.held e)
      ∙ chained-append drawings 0 (made_by e.stamp.site slow.held) (e ∷ [])

  known-next : known (with_event slow e) e.stamp.site ≡ foreseen_by Next (known slow e.stamp.site) e
  known-next =
      let counted = made_more slow.held e in
      let sure_is = put_same slow.sure e.stamp.site e.stamp.clock e.stamp.site refl in
      λ i. record { count = counted i; sure = sure_is i; check = known-check i }

  known-by : (o : Offer) → foreseen_by o (known slow e.stamp.site) e ≡ known (after_offer o slow e) e.stamp.site
  known-by Next = sym known-next
  known-by Repeat = refl
  known-by Gap = refl
  known-by (Backdated clock sure) = refl

foreseen_is : (from : ℕ) (slow : SlowSite) (es : List Event) → AllBy from es
    → foreseen (known slow from) es ≡ known (all_arrived slow es) from
unfolding foreseen all_arrived
foreseen_is from slow [] by = refl
foreseen_is from slow (e ∷ es) by =
    let one : foreseen_by (foreseen_offer (known slow from) e) (known slow from) e ≡ known (arrived slow e) from =
    subst
    (λ (t : ℕ). foreseen_by (foreseen_offer (known slow t) e) (known slow t) e ≡ known (arrived slow e) t)
    by.0 (known-by slow e (offer slow e)) in
    ap (λ (so : Foreseen). foreseen so es) one ∙ foreseen_is from (arrived slow e) es by.1

-- the events of a frame are its sender's
by_sender : (head : Head) (last : Option Last) (es : List Event) → AreInTurn head last es → AllBy head.from es
unfolding AllFollow
by_sender head last [] h = tt
by_sender head last (e ∷ es) h =
    let same = eqb-true e.stamp.site head.from (and_parts (e.stamp.site == head.from) _ h.0.next).0 in
    (same, by_sender head (Some (last_of e)) es h.1)

-- ---- the verdict on a frame

-- the sender of a frame that isn't refused is another site
pub sender_other : (slow : SlowSite) (s : SiteValue) → StandsFor slow s → (f : Frame) → refusal slow f ≡ None
    → IsOther s.peers f.head.from
sender_other slow s stands f none =
    let accepted = IsAccepted-from_none slow f none in
    other_in slow s stands f.head.from (accepted.inside, accepted.foreign)

pub site_of : (slow : SlowSite) (s : SiteValue) → StandsFor slow s → (t : ℕ) → IsOther s.peers t → IsSite t
site_of slow s stands t other = (other.from, omega (arith, other.to, stands.sites, stands.well.met.1))

-- the same for a site that stands for some reference site
pub stored_other : (s : SiteValue) → HasSlowSite s → (f : Frame) → refused_by s f ≡ None → IsOther s.peers f.head.from
stored_other s i f none = sender_other i.slow s i.stands f (sym (refused_is i.slow s i.stands f) ∙ none)

pub stored_site : (s : SiteValue) → HasSlowSite s → (t : ℕ) → IsOther s.peers t → IsSite t
stored_site s i t other = site_of i.slow s i.stands t other

module _ (slow : SlowSite) (s : SiteValue) (stands : StandsFor slow s) where
  held_is : (t : ℕ) → IsOther s.peers t → held_of s t ≡ known slow t
  held_is t other =
      let there = other_of slow s stands t other in
      let within = site_of slow s stands t other in
      let counted = stands.counts t there in
      let sure_is = stands.sures t there in
      let checks = stands.chains.are t within.0 within.1 ∙ held_check_is slow t in
      λ i. record { count = counted i; sure = sure_is i; check = checks i }

  module _ (f : Frame) (good : IsFrame f) where
    parts_is : IsOther s.peers f.head.from → parts_by s f ≡ shows_parting slow f
    unfolding shows_parting
    parts_is other =
        ap (λ (so : Foreseen). differs (foreseen so f.events) f.head) (held_is f.head.from other)
        ∙ ap (λ (so : Foreseen). differs so f.head)
        (foreseen_is f.head.from slow f.events (by_sender f.head None f.events good.turns))

    verdict-by : (r : Option FrameFault) → refused_by s f ≡ r → refusal slow f ≡ r
        → verdict_of s f ≡ verdict_by (refusal slow f) (shows_parting slow f) (slow.parted f.head.from) f.head.count
    unfolding verdict_by
    verdict-by (Some fault) is there =
        ap (λ (r : Option FrameFault). verdict_by r (parts_by s f) (parted_at s.parted f.head.from) f.head.count) is
        ∙ sym (ap (λ (r : Option FrameFault).
        verdict_by r (shows_parting slow f) (slow.parted f.head.from) f.head.count) there)
    verdict-by None is there =
        let accepted = IsAccepted-from_none slow f there in
        let refusals = refused_is slow s stands f in
        let parts = parts_is (sender_other slow s stands f there) in
        let before = stands.parted f.head.from accepted.inside in
        λ i. verdict_by (refusals i) (parts i) (before i) f.head.count

    -- what the site stores and the reference site judge alike
    pub verdict_is : verdict_of s f ≡ verdict slow f
    unfolding verdict
    verdict_is = verdict-by (refusal slow f) (refused_is slow s stands f) refl

-- what the calls of `judge_accepted` give
pub judged_by : (s : SiteValue) (f : Frame) (head : Head) → head ≡ f.head → (so : Foreseen) → so ≡ held_of s head.from
    → (events : List Event) → events ≡ f.events → (then : Foreseen) → then ≡ foreseen so events
    → (parts : Bool) → parts ≡ differs then head → (before : Option ℕ) → before ≡ parted_at s.parted head.from
    → (v : Verdict) → v ≡ verdict_by None parts before head.count
    → v ≡ verdict_by None (parts_by s f) (parted_at s.parted f.head.from) f.head.count
judged_by s f head head_is so so_is events events_are then then_is parts parts_are before before_is v is =
    let held = so_is ∙ ap (λ (h : Head). held_of s h.from) head_is in
    let come = then_is ∙ (λ i. foreseen (held i) (events_are i)) in
    let differ = parts_are ∙ (λ i. differs (come i) (head_is i)) in
    let was = before_is ∙ ap (λ (h : Head). parted_at s.parted h.from) head_is in
    let counts = ap (λ (h : Head). h.count) head_is in
    is ∙ (λ i. verdict_by None (differ i) (was i) (counts i))

-- what is taken, or shows a parting, isn't refused
fine-taken : (r : Option FrameFault) (parts : Bool) (before : Option ℕ) (counted : ℕ)
    → Taken ≡ verdict_by r parts before counted → r ≡ None
unfolding verdict_by
fine-taken None parts before counted e = refl
fine-taken (Some fault) parts before counted e = cc

fine-parted : (count : ℕ) (r : Option FrameFault) (parts : Bool) (before : Option ℕ) (counted : ℕ)
    → Parted count ≡ verdict_by r parts before counted → r ≡ None
unfolding verdict_by
fine-parted count None parts before counted e = refl
fine-parted count (Some fault) parts before counted e = cc

-- and those of `judge`
module _ (s : SiteValue) (f : Frame) where
  pub stored_accepted : (u : Unit {0}) → Ok u ≡ checked (refused_by s f) → (v : Verdict)
      → v ≡ verdict_by None (parts_by s f) (parted_at s.parted f.head.from) f.head.count → v ≡ verdict_of s f
  stored_accepted u said v is =
      is
      ∙ ap (λ (r : Option FrameFault). verdict_by r (parts_by s f) (parted_at s.parted f.head.from) f.head.count)
      (sym (checked_none (refused_by s f) u (sym said)))

  pub stored_refused : (why : FrameFault) → Err why ≡ checked (refused_by s f) → Refused why ≡ verdict_of s f
  unfolding verdict_by
  stored_refused why said =
      sym (ap (λ (r : Option FrameFault). verdict_by r (parts_by s f) (parted_at s.parted f.head.from) f.head.count)
      (checked_some (refused_by s f) why (sym said)))

  pub stored_taken : Taken ≡ verdict_of s f → refused_by s f ≡ None
  stored_taken is = fine-taken (refused_by s f) (parts_by s f) (parted_at s.parted f.head.from) f.head.count is

  stored_parted : (count : ℕ) → Parted count ≡ verdict_of s f → refused_by s f ≡ None
  stored_parted count is =
      fine-parted count (refused_by s f) (parts_by s f) (parted_at s.parted f.head.from) f.head.count is

-- the sender of a frame that shows a parting
pub parted_other : (slow : SlowSite) (s : SiteValue) → StandsFor slow s → (f : Frame) (count : ℕ)
    → Parted count ≡ verdict_of s f → IsOther s.peers f.head.from
parted_other slow s stands f count is =
    sender_other slow s stands f (sym (refused_is slow s stands f) ∙ stored_parted s f count is)

-- ---- a parting that is noted

parted_put : (xs : List (Option ℕ)) (site count t : ℕ) → length xs ≡ 16 → 1 ≤ site → site ≤ 16 → 1 ≤ t
    → parted_at (partings.with_parting xs site count) t ≡ put (parted_at xs) site (Some count) t
unfolding put
parted_put xs site count t long from to low =
    grind (arith, get_or-set_same {A = Option ℕ}, get_or-set_other {A = Option ℕ})

module _ (s : SiteValue) (i : HasSlowSite s) (site count : ℕ) (other : IsOther s.peers site) (xs : List (Option ℕ))
    (are : xs ≡ partings.with_parting s.parted site count) where
  abbrev pub parted_site : SiteValue
  parted_site = record s { parted = xs }

  module _ (slow : SlowSite) (stands : StandsFor slow s) where
    parted_now : (t : ℕ) → IsTrue (is_site slow.sites t) → parted_at xs t ≡ put slow.parted site (Some count) t
    parted_now t h =
        let from = (is_site-bounds slow.sites t h).0 in
        let within = site_of slow s stands site other in
        ap (λ (l : List (Option ℕ)). parted_at l t) are
        ∙ parted_put s.parted site count t i.parted within.0 within.1 from
        ∙ put_cases
        (λ (u : ℕ) (x : Option ℕ). IsTrue (is_site slow.sites u) → x ≡ put slow.parted site (Some count) u)
        (parted_at s.parted) site (Some count)
        (λ k. sym (put_same slow.parted site (Some count) site refl))
        (λ u ne k. stands.parted u k ∙ sym (put_other slow.parted site (Some count) u ne)) t h

    pub parting_stands : StandsFor (with_parting slow site count) parted_site
    parting_stands = record {
      well = well_parted slow (put slow.parted site (Some count)) stands.well;
      me = stands.me;
      sites = stands.sites;
      session = stands.session;
      counts = stands.counts;
      sures = stands.sures;
      acks = stands.acks;
      notes = stands.notes;
      clock_is = stands.clock_is;
      made = stands.made;
      held = stands.held;
      outbox_is = stands.outbox_is;
      history = stands.history;
      chains = stands.chains;
      parted = parted_now;
    }

  pub parting_is_site : length xs ≡ 16 → HasSlowSite parted_site
  parting_is_site long = record {
    slow = with_parting i.slow site count;
    stands = parting_stands i.slow i.stands;
    peers = i.peers;
    notes = i.notes;
    parted = long;
  }
