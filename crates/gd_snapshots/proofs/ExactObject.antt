-- An object of a snapshot is read where its bytes stand, and nowhere else.
use Rattle.std.proofs.Common.{Option, Some, None}
use Rattle.std.proofs.lemmas.Bool.{and_parts, and_from}
use Rattle.gd_base.specs.Ranges.{place_limit, size_limit, is_within}
use Rattle.gd_base.specs.Typed.{AreEnds}
use Rattle.gd_base.specs.declared.object.Ends.{Ends}
use Rattle.gd_base.specs.declared.object.Link.{Link}
use Rattle.gd_base.specs.Whole.{Object}
use Rattle.gd_base.specs.declared.rank.Rank.{Rank}
use Rattle.gd_base.specs.declared.rank.Rank.TheVariants.{Low, High}
use Rattle.gd_grammar.specs.Exact.{Exact}
use Rattle.gd_grammar.specs.ObjectBytes.{object_at}
use Rattle.gd_grammar.specs.Spelling.{object_bytes}
use Rattle.gd_grammar.proofs.ExactObject as objects
use Rattle.gd_grammar.proofs.SoundLooks.{look-parts, parts-look}
use Rattle.gd_grammar.proofs.SoundObjects.{AreEndsOf, IsLinkOf, IsRank, IsDrawnBy, own-label, label-back}
use Rattle.gd_snapshots.specs.Snapshots as snapshots
use Rattle.gd_snapshots.specs.Snapshots.{IsDrawn, IsLinkOrNone}

ends-of : (ends : Option Ends) → AreEnds ends → AreEndsOf None ends
ends-of None s = tt
ends-of (Some ends) s = s

ends-from : (ends : Option Ends) → AreEndsOf None ends → AreEnds ends
ends-from None s = tt
ends-from (Some ends) s = s

link-of : (link : Option Link) → IsLinkOrNone link → IsLinkOf None link
link-of None s = tt
link-of (Some link) s =
    let shift = and_parts (is_within place_limit link.dx) (is_within place_limit link.dy) s.1 in
    (s.0, record { within = shift.0 }, record { within = shift.1 })

link-from : (link : Option Link) → IsLinkOf None link → IsLinkOrNone link
link-from None s = tt
link-from (Some link) s = (s.0, and_from _ _ s.1.within s.2.within)

rank-of : (rank : Rank) → snapshots.IsRank rank → IsRank None rank
rank-of (Low stamp) s = s
rank-of (High stamp) s = s

rank-from : (rank : Rank) → IsRank None rank → snapshots.IsRank rank
rank-from (Low stamp) s = s
rank-from (High stamp) s = s

-- an object that no operation names
pub drawn : (o : Object) → IsDrawn o → IsDrawnBy None o
drawn o s =
    let place = and_parts (is_within place_limit o.x) (is_within place_limit o.y) s.place in
    let size = and_parts (is_within size_limit o.w) (is_within size_limit o.h) s.size in
    record {
      left = record { within = place.0 };
      top = record { within = place.1 };
      width = record { within = size.0 };
      height = record { within = size.1 };
      look = look-parts o.look s.look;
      label = own-label o.kind o.label s.label s.title;
      ends = record { given = ends-of o.ends s.ends; joined = s.joined };
      link = link-of o.link s.link;
      rank = rank-of o.rank s.rank;
    }

from-drawn : (o : Object) → IsDrawnBy None o → IsDrawn o
from-drawn o s =
    let label = label-back o.kind o.label s.label in
    record {
      place = and_from _ _ s.left.within s.top.within;
      size = and_from _ _ s.width.within s.height.within;
      look = parts-look o.look s.look;
      label = label.typed;
      title = label.own;
      ends = ends-from o.ends s.ends.given;
      joined = s.ends.joined;
      link = link-from o.link s.link;
      rank = rank-from o.rank s.rank;
    }

pub exact_object : Exact (object_at None) IsDrawn object_bytes
exact_object = record {
  written = λ o rest s. (objects.exact_object None).written o rest (drawn o s);
  taken = λ bytes z are e. let took = (objects.exact_object None).taken bytes z are e
      in record { sound = from-drawn z.0 took.sound; text = took.text };
}
