-- What would be held of a frame's sender once the frame's events have arrived.
use Rattle.std.specs.Prelude.{ℕ, ◌+◌, ◌-◌, Bool, ◌&&◌, not, List, [], ◌∷◌, ◌==◌, slice_index}
use Rattle.gd_base.specs.declared.offer.Offer.{Offer}
use Rattle.gd_base.specs.declared.offer.Offer.TheVariants.{Next, Repeat, Gap, Backdated}
use Rattle.gd_base.specs.declared.verdict.Verdict.{Verdict}
use Rattle.gd_check.specs.Checks.{check}
use Rattle.gd_events.specs.Events.{Event}
use Rattle.gd_grammar.specs.Drawings.{drawings}
use Rattle.gd_grammar.specs.FrameBytes.{Frame}
use Rattle.gd_grammar.specs.Kinds.{spelling}
use Rattle.gd_grammar.specs.declared.frame.Head.{Head}
use Rattle.gd_reference.specs.Offers.{offered, verdict_by}
use Rattle.gd_site.specs.declared.foreseen.Foreseen.{Foreseen}
use Rattle.gd_site.specs.Judged.{refused_by}
use Rattle.gd_site.specs.Sites.{SiteValue}
use Rattle.gd_stable.specs.Partings.{parted_at}
use Rattle.gd_stable.specs.Peers.{of_site}

-- once an event of that offer came
abbrev pub foreseen_by : Offer → Foreseen → Event → Foreseen
foreseen_by Next so e =
    record { count = so.count + 1; sure = e.stamp.clock; check = check so.check (spelling drawings e) }
foreseen_by Repeat so e = so
foreseen_by Gap so e = so
foreseen_by (Backdated clock sure) so e = so

abbrev pub foreseen_offer : Foreseen → Event → Offer
foreseen_offer so e = offered so.count so.sure e.number e.stamp.clock

-- one after the other
unfoldable pub foreseen : Foreseen → List Event → Foreseen
foreseen so [] = so
foreseen so (e ∷ es) = foreseen (foreseen_by (foreseen_offer so e) so e) es

-- as many events are held then as the head counts, with another check
abbrev pub differs : Foreseen → Head → Bool
differs so head = so.count == head.count && not (so.check == head.check)

-- what a site holds of another one
abbrev pub held_of : SiteValue → ℕ → Foreseen
held_of s site =
    record {
      count = of_site s.peers.counts site;
      sure = of_site s.peers.sures site;
      check = slice_index s.chains (site - 1);
    }

abbrev pub parts_by : SiteValue → Frame → Bool
parts_by s f = differs (foreseen (held_of s f.head.from) f.events) f.head

-- what becomes of a frame, by what the site stores
abbrev pub verdict_of : SiteValue → Frame → Verdict
verdict_of s f = verdict_by (refused_by s f) (parts_by s f) (parted_at s.parted f.head.from) f.head.count
