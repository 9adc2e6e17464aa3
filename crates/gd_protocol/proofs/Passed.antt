-- Passages make no event, and no site loses one by them.
use Rattle.std.proofs.Common.{◌≡◌, ◌≢◌, ℕ, ◌≤◌, not, ◌&&◌, ◌==◌, List, [], ◌∷◌, length, slice_get, Option, Some, None}
use Rattle.std.proofs.Common.{refl, sym, ◌∙◌, arith}
use Rattle.std.proofs.lemmas.Bool.{cond_both}
use Rattle.gd_grammar.specs.FrameBytes.{Frame}
use Rattle.gd_reference.specs.Offers.{take_frame}
use Rattle.gd_base.specs.Sites.{is_site}
use Rattle.gd_reference.specs.SlowSite.{SlowSite, count, own}
use Rattle.gd_reference.specs.World.{Deliver, Send, Step, World, delivered, happens, with_site}
use Rattle.gd_protocol.proofs.Frames.{received}
use Rattle.gd_protocol.proofs.Growth.{Takes-counts, Takes-own}
use Rattle.gd_base.proofs.Lists.{Every-at}
use Rattle.gd_protocol.proofs.Lists.{put_cases}
use Rattle.gd_protocol.proofs.Rising.{Rises, Rises-refl, Rises-take_frame, Rises-trans}
use Rattle.gd_protocol.proofs.Runs.{later-step}
use Rattle.gd_protocol.specs.Kept.{IsMail, Kept}
use Rattle.gd_protocol.specs.Passages.{Passage, all_passed, passed}

-- ---- sites whose own events stay

pub record IsQuiet (old new : SlowSite) : Type 0 where
  pub own : own new ≡ own old
  pub rises : Rises old new
  pub counts : (t : ℕ) → count old t ≤ count new t

IsQuiet-refl : (slow : SlowSite) → IsQuiet slow slow
IsQuiet-refl slow = record { own = refl; rises = Rises-refl slow; counts = λ t. omega arith }

IsQuiet-trans : (a b c : SlowSite) → IsQuiet a b → IsQuiet b c → IsQuiet a c
IsQuiet-trans a b c p q = record {
  own = q.own ∙ p.own;
  rises = Rises-trans a b c p.rises q.rises;
  counts = λ t. omega (arith, p.counts t, q.counts t);
}

quiet-delivered : (w : World) → Kept w → (mail : Option Frame) → ((f : Frame) → mail ≡ Some f → IsMail w f) → (t : ℕ)
    → IsQuiet (w.at t) ((delivered w mail).at t)
unfolding with_site
quiet-delivered w h None sound t = IsQuiet-refl (w.at t)
quiet-delivered w h (Some f) sound t =
    let r = received w f h (sound f refl) in
    let new = take_frame (w.at f.head.to) f in
    let foreign : (w.at f.head.to).me ≢ f.head.from =
    λ same. (sound f refl).apart (sym same ∙ (h.named f.head.to).me) in
    put_cases (λ (u : ℕ) (x : SlowSite). IsQuiet (w.at u) x) w.at f.head.to new
    (record {
      own = Takes-own f.head.from (w.at f.head.to) new r.takes foreign;
      rises = Rises-take_frame (w.at f.head.to) f;
      counts = Takes-counts f.head.from (w.at f.head.to) new r.takes;
    })
    (λ u ne. IsQuiet-refl (w.at u)) t

-- a later world, in which no site made an event
pub record Passed (old new : World) : Type 0 where
  pub kept : Kept new
  pub sites : new.sites ≡ old.sites
  pub quiet : (t : ℕ) → IsQuiet (old.at t) (new.at t)

passed-then : (a b c : World) → Passed a b → Passed b c → Passed a c
passed-then a b c p q = record {
  kept = q.kept;
  sites = q.sites ∙ p.sites;
  quiet = λ t. IsQuiet-trans (a.at t) (b.at t) (c.at t) (p.quiet t) (q.quiet t);
}

passed-step : (w : World) → Kept w → (step : Step) → ((t : ℕ) → IsQuiet (w.at t) ((happens w step).at t))
    → Passed w (happens w step)
passed-step w h step quiet =
    let next = later-step w h step in record { kept = next.kept; sites = next.sites; quiet = quiet }

module _ (w : World) (h : Kept w) where
  passed-sent : (from to : ℕ) → Passed w (happens w (Send from to))
  unfolding happens
  passed-sent from to =
      passed-step w h (Send from to)
      (λ t. cond_both (is_site w.sites from && is_site w.sites to && not (from == to)) _ w
      (λ (v : World). IsQuiet (w.at t) (v.at t)) (λ is. IsQuiet-refl (w.at t)) (λ is. IsQuiet-refl (w.at t)))

  passed-deliver : (k : ℕ) → Passed w (happens w (Deliver k))
  unfolding happens
  passed-deliver k =
      passed-step w h (Deliver k) (quiet-delivered w h (slice_get w.mail k) (λ f e. Every-at _ w.mail k f h.mails e))

pub passed-one : (w : World) → Kept w → (p : Passage) → Passed w (passed w p)
unfolding passed
passed-one w h p =
    let next = happens w (Send p.from p.to) in
    let sends = passed-sent w h p.from p.to in
    passed-then w next (passed w p) sends (passed-deliver next sends.kept (length w.mail))

pub passed-all : (w : World) → Kept w → (ps : List Passage) → Passed w (all_passed w ps)
unfolding all_passed
passed-all w h [] = record { kept = h; sites = refl; quiet = λ t. IsQuiet-refl (w.at t) }
passed-all w h (p ∷ ps) =
    let one = passed-one w h p in
    passed-then w (passed w p) (all_passed (passed w p) ps) one (passed-all (passed w p) one.kept ps)
