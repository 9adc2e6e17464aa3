-- A snapshot: a drawing handed on without its history.
--
-- It is of a session and of one of its sites, and says of each site how many of its events were held, and its sure
-- clock. Its objects are the drawing of the held events up to the line, which is the least of the sure clocks, by their
-- ids. Behind them come the held events above the line, by their stamps.
use Rattle.std.specs.List.{AllByRecursion}
use Rattle.std.specs.Prelude.{◌≡◌, ◌<◌, ◌≤◌, ◌^◌, ℕ, ◌+◌, ◌-◌, min, Bool, true, ◌&&◌, nat_le, nat_lt, List, [], ◌∷◌}
use Rattle.std.specs.Prelude.{length, get_or, map, sum, Option, Some, None, IsTrue}
use Rattle.gd_base.specs.Kinds.{are_ends_of, is_label_of}
use Rattle.gd_base.specs.Labels.{IsLabel}
use Rattle.gd_base.specs.Ranges.{place_limit, size_limit, is_within}
use Rattle.gd_base.specs.Looks.{is_look}
use Rattle.gd_base.specs.Typed.{AreEnds}
use Rattle.gd_base.specs.Stamps.{Stamp, IsStamp}
use Rattle.gd_base.specs.declared.ranges.TheConstants.{CLOCK_LIMIT, SITES}
use Rattle.gd_events.specs.Events.{Event}
use Rattle.gd_events.specs.Sound.{IsSound, is_above}
use Rattle.gd_grammar.specs.Reading.{AllFollow}
use Rattle.gd_base.specs.declared.object.Link.{Link}
use Rattle.gd_base.specs.Whole.{Object}
use Rattle.gd_base.specs.declared.rank.Rank.{Rank}
use Rattle.gd_base.specs.declared.rank.Rank.TheVariants.{Low, High}
use Rattle.gd_snapshots.specs.declared.known.Known.{Known}

-- an object under its id
abbrev pub Placed : Type 0
Placed = Stamp × Object

pub record Snapshot : Type 0 where
  pub session : ℕ
  pub site : ℕ
  -- of each site from 1 on
  pub known : List Known
  pub objects : List Placed
  pub kept : List Event

-- nothing is known of a site
abbrev pub unknown : Known
unknown = record { count = 0; sure = 0 }

-- what is known of that site
abbrev pub known_of : List Known → ℕ → Known
known_of known site = get_or known (site - 1) unknown

-- how many events of all sites were held
abbrev pub total : List Known → ℕ
total known = sum (map (λ k. k.count) known)

-- the least of the sure clocks
unfoldable pub least_sure : List Known → ℕ
least_sure [] = 0
least_sure (k ∷ []) = k.sure
least_sure (k ∷ j ∷ ks) = min k.sure (least_sure (j ∷ ks))

-- ---- in order

-- the id, or the stamp, comes behind the last one, if there is one
abbrev pub id_of : Placed → Option Stamp
id_of p = Some p.0

abbrev pub stamp_of : Event → Option Stamp
stamp_of e = Some e.stamp

-- the event is one of those that are held of its site, and lies above the line and no higher than the site's sure clock
abbrev pub is_bounded : List Known → Event → Bool
is_bounded known e =
    nat_le e.stamp.site (length known)
    && (nat_le e.number (known_of known e.stamp.site).count
    && (nat_lt (least_sure known) e.stamp.clock && nat_le e.stamp.clock (known_of known e.stamp.site).sure))

-- ---- good snapshots

pub record IsKnown (k : Known) : Type 0 where
  pub count : k.count < 2 ^ 16
  pub sure : k.sure < CLOCK_LIMIT

abbrev pub IsLinkOrNone : Option Link → Type 0
IsLinkOrNone None = Unit {0}
IsLinkOrNone (Some link) = IsStamp link.parent × IsTrue (is_within place_limit link.dx && is_within place_limit link.dy)

abbrev pub IsRank : Rank → Type 0
IsRank (Low stamp) = IsStamp stamp
IsRank (High stamp) = IsStamp stamp

-- each field of the object is in its range
pub record IsDrawn (o : Object) : Type 0 where
  pub place : IsTrue (is_within place_limit o.x && is_within place_limit o.y)
  pub size : IsTrue (is_within size_limit o.w && is_within size_limit o.h)
  pub look : IsTrue (is_look o.look)
  pub label : IsLabel o.label
  pub title : IsTrue (is_label_of o.kind o.label)
  pub ends : AreEnds o.ends
  pub joined : IsTrue (are_ends_of o.kind o.ends)
  pub link : IsLinkOrNone o.link
  pub rank : IsRank o.rank

pub record IsPlaced (last : Option Stamp) (p : Placed) : Type 0 where
  pub id : IsStamp p.0
  pub above : is_above last p.0 ≡ true
  pub object : IsDrawn p.1

pub record IsKept (known : List Known) (last : Option Stamp) (e : Event) : Type 0 where
  pub sound : IsSound e
  pub above : is_above last e.stamp ≡ true
  pub bounded : is_bounded known e ≡ true

pub record IsSnapshot (s : Snapshot) : Type 0 where
  pub session : s.session < 2 ^ 32
  pub site_above : 1 ≤ s.site
  pub site_below : s.site ≤ length s.known
  pub few : length s.known ≤ SITES
  pub known : AllByRecursion IsKnown s.known
  pub objects : AllFollow IsPlaced id_of None s.objects
  pub kept : AllFollow (IsKept s.known) stamp_of None s.kept
  -- no more objects and kept events than there were events
  pub made : length s.objects + length s.kept ≤ total s.known
