use Rattle.std.proofs.Common.{arith, rules}
use Rattle.gd_site.proofs.Framing.{frame_good, framed_brought, framed_bytes, framed_few}
use Rattle.gd_site.proofs.site.Site.write_frame_behind.Goals as goal

pub write_frame-requires : goal.write_frame-requires
write_frame-requires c =
    let i = c.self.invariant in
    let other = rw (← c.self.view_is) at c.requires.other in
    let unacked = rw (← c.self.view_is) at c.requires.unacked in
    (frame_good i.slow _ i.stands c.args.to other c.args.behind unacked).head.clock

pub at-requires-clause-above : goal.at-requires-clause-above
at-requires-clause-above c = rw c.me-me.ensures c.self.invariant.peers.me_from

pub at-requires-clause-below : goal.at-requires-clause-below
at-requires-clause-below c =
    let sized = c.self.invariant.peers in
    rw c.me-me.ensures (omega (arith, sized.me_to, sized.sites_to))

pub overflow_add-result : goal.overflow_add-result
overflow_add-result c =
    let i = c.self.invariant in
    let other = rw (← c.self.view_is) at c.requires.other in
    let unacked = rw (← c.self.view_is) at c.requires.unacked in
    let few = framed_few _ c.args.to c.me-me.result c.held.result c.at.result c.get.result c.args.behind
    c.after-events.result
    (record {
      me_is = c.me-me.ensures;
      ack_is = c.held.ensures;
      check_is = c.at.ensures;
      note_is = c.get.ensures.note;
      events_are = c.after-events.ensures;
    }) i.slow i.stands other unacked (search rules) in
    rw (c.from.ensures, c.count.ensures) (omega (arith, few))

pub returns-clause-bytes : goal.returns-clause-bytes
returns-clause-bytes c =
    let other = rw (← c.self.view_is) at c.requires.other in
    let unacked = rw (← c.self.view_is) at c.requires.unacked in
    rw (← c.self.view_is)
    (λ slow stands.
    framed_bytes _ c.args.to c.me-me.result c.held.result c.at.result c.get.result c.args.behind c.after-events.result
    (record {
      me_is = c.me-me.ensures;
      ack_is = c.held.ensures;
      check_is = c.at.ensures;
      note_is = c.get.ensures.note;
      events_are = c.after-events.ensures;
    }) slow stands other unacked c.write_frame.new.out c.write_frame.ensures)

pub returns-clause-brought : goal.returns-clause-brought
returns-clause-brought c =
    let other = rw (← c.self.view_is) at c.requires.other in
    let unacked = rw (← c.self.view_is) at c.requires.unacked in
    rw (← c.self.view_is, c.from.ensures, c.count.ensures)
    (λ slow stands.
    framed_brought _ c.args.to c.me-me.result c.held.result c.at.result c.get.result c.args.behind c.after-events.result
    (record {
      me_is = c.me-me.ensures;
      ack_is = c.held.ensures;
      check_is = c.at.ensures;
      note_is = c.get.ensures.note;
      events_are = c.after-events.ensures;
    }) slow stands other unacked)
