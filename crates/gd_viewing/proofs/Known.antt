-- What a snapshot of a site says of each site, and the line of its viewers.
use Rattle.std.proofs.Common.{◌≡◌, ℕ, zero, suc, ◌+◌, ◌-◌, ◌<◌, ◌≤◌, get_or, length, refl, sym, ap, ◌∙◌, arith, ◌==◌}
use Rattle.std.proofs.Common.{true, eq-eqb, ne_eqb}
use Rattle.std.proofs.lemmas.Bool.{cond_both, eqb-false}
use Rattle.gd_base.specs.Sites.{is_site}
use Rattle.gd_base.proofs.SiteLemmas.{is_site-bounds, is_site-within}
use Rattle.gd_protocol.proofs.Least.{least_of_others-at, least_of_others-greatest, least_of_others-top}
use Rattle.gd_protocol.specs.Sites.{IsWell}
use Rattle.gd_reference.specs.SlowSite.{SlowSite, clock, count, line}
use Rattle.gd_snapshots.specs.Snapshots.{known_of, unknown}
use Rattle.gd_snapshots.specs.declared.known.Known.{Known}
use Rattle.gd_viewing.specs.Handing.{known_behind, known_by, snapshot_of, sure_of}
use Rattle.gd_viewing.specs.SlowViewer.{SlowViewer, opened, viewer_line}

pub length-known : (slow : SlowSite) (site k : ℕ) → length (known_behind slow site k) ≡ k
unfolding known_behind
length-known slow site zero = refl
length-known slow site (suc k) = ap suc (length-known slow (site + 1) k)

known_next : (slow : SlowSite) (site k i : ℕ) → i < k
    → get_or (known_behind slow site k) i unknown ≡ known_by slow (site + 1 + i)
unfolding known_behind
known_next slow site zero i h = absurd (omega (arith, h))
known_next slow site (suc k) zero h = let same : site + 1 + 0 ≡ site + 1 = omega arith in ap (known_by slow) (sym same)
known_next slow site (suc k) (suc i) h =
    let same : site + 1 + 1 + i ≡ site + 1 + suc i = omega arith in
    known_next slow (site + 1) k i (omega (arith, h)) ∙ ap (known_by slow) same

pub known_is : (slow : SlowSite) (t : ℕ) → is_site slow.sites t ≡ true
    → known_of (known_behind slow 0 slow.sites) t ≡ known_by slow t
known_is slow t inside =
    let bounds = is_site-bounds slow.sites t inside in
    let same : 0 + 1 + (t - 1) ≡ t = omega (arith, bounds.0) in
    known_next slow 0 slow.sites (t - 1) (omega (arith, bounds.0, bounds.1)) ∙ ap (known_by slow) same

abbrev begun : SlowSite → SlowViewer
begun slow = opened (snapshot_of slow)

pub begun-count : (slow : SlowSite) (t : ℕ) → is_site slow.sites t ≡ true
    → (opened (snapshot_of slow)).count t ≡ count slow t
unfolding opened snapshot_of
begun-count slow t inside = ap (λ (k : Known). k.count) (known_is slow t inside)

pub begun-sure : (slow : SlowSite) (t : ℕ) → is_site slow.sites t ≡ true
    → (opened (snapshot_of slow)).sure t ≡ sure_of slow t
unfolding opened snapshot_of
begun-sure slow t inside = ap (λ (k : Known). k.sure) (known_is slow t inside)

pub begun-session : (slow : SlowSite) → (opened (snapshot_of slow)).session ≡ slow.session
unfolding opened snapshot_of
begun-session slow = refl

pub begun-sites : (slow : SlowSite) → (opened (snapshot_of slow)).sites ≡ slow.sites
unfolding opened snapshot_of
begun-sites slow = length-known slow 0 slow.sites

-- ---- the line

-- the line is no higher than any sure clock
pub line_below : (slow : SlowSite) (t : ℕ) → is_site slow.sites t ≡ true → line slow ≤ sure_of slow t
line_below slow t inside =
    let bounds = is_site-bounds slow.sites t inside in
    cond_both (t == slow.me) (clock slow) (slow.sure t) (λ n. line slow ≤ n)
    (λ mine. least_of_others-top slow.sure slow.me (clock slow) slow.sites)
    (λ other. least_of_others-at slow.sure slow.me (clock slow) slow.sites t bounds.0 bounds.1
    (eqb-false t slow.me other))

-- a number that is no higher than any sure clock is no higher than the line
pub line_above : (slow : SlowSite) (n : ℕ) → is_site slow.sites slow.me ≡ true
    → ((t : ℕ) → is_site slow.sites t ≡ true → n ≤ sure_of slow t) → n ≤ line slow
line_above slow n member below =
    least_of_others-greatest slow.sure slow.me (clock slow) n slow.sites
    (let mine : sure_of slow slow.me
    ≡ clock slow = rw (eq-eqb slow.me slow.me refl) refl in omega (arith, mine, below slow.me member))
    (λ t low high other. let its : sure_of slow t
    ≡ slow.sure t = rw (ne_eqb t slow.me other) refl
    in omega (arith, its, below t (is_site-within slow.sites t low high)))

pub begun-line : (slow : SlowSite) → IsWell slow → viewer_line (opened (snapshot_of slow)) ≡ line slow
begun-line slow well =
    let v = begun slow in
    let top = v.sure 1 in
    let sites : v.sites ≡ slow.sites = begun-sites slow in
    let member = is_site-bounds slow.sites slow.me well.member in
    let sure = begun-sure slow in
    let down : viewer_line v ≤ line slow = line_above slow (viewer_line v) well.member (λ t inside.
    let bounds = is_site-bounds slow.sites t inside in
    omega (
      arith,
      sure t inside,
      least_of_others-at v.sure 0 top v.sites t bounds.0 (omega (arith, bounds.1, sites))
          (omega (arith, bounds.0)),
    )) in
    let first = is_site-within slow.sites 1 (omega arith) (omega (arith, member.0, member.1)) in
    let up : line slow ≤ viewer_line v
    = least_of_others-greatest v.sure 0 top (line slow) v.sites
    (omega (arith, sure 1 first, line_below slow 1 first)) (λ t low high other.
    let inside = is_site-within slow.sites t low (omega (arith, high, sites)) in
    omega (arith, sure t inside, line_below slow t inside)) in
    omega (arith, up, down)
