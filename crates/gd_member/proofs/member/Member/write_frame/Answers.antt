use Rattle.std.proofs.Common.{ap, arith, max, refl, sym, ◌∙◌}
use Rattle.gd_grammar.specs.FrameBytes.{frame_bytes}
use Rattle.gd_member.proofs.Standing.{has_all, lacks_some}
use Rattle.gd_reference.specs.Offers.{brought_behind, frame_behind}
use Rattle.gd_site.proofs.Stands.{other_in, other_of}
use Rattle.gd_member.proofs.member.Member.write_frame.Goals as goal

pub returns-then-not-is_other : goal.returns-then-not-is_other
returns-then-not-is_other c slow written st =
    let s = rw (← c.self.view_is) at st in
    (λ other. c.is_other.ensures.no c.if-not-is_other.true (other_in slow _ s.stands.site c.args.to other), refl)

pub returns-then-not-is_empty : goal.returns-then-not-is_empty
returns-then-not-is_empty c slow written st =
    let s = rw (← c.self.view_is) at st in
    (lacks_some s (sym c.is_empty.ensures ∙ c.if-not-is_empty.true), refl)

pub acked-acked-requires : goal.acked-acked-requires
acked-acked-requires c = c.is_other.ensures.yes c.if-not-is_other.false

pub write_frame_behind-requires-clause-other : goal.write_frame_behind-requires-clause-other
write_frame_behind-requires-clause-other c = c.is_other.ensures.yes c.if-not-is_other.false

pub write_frame_behind-requires-clause-unacked : goal.write_frame_behind-requires-clause-unacked
write_frame_behind-requires-clause-unacked c = omega (arith, c.max-start.ensures, c.acked-acked.ensures.stored)

pub returns : goal.returns
returns c slow written st =
    let s = rw (← c.self.view_is) at st in
    let stands = s.stands.site in
    let to = c.args.to in
    let start_is = c.max-start.ensures ∙ ap (λ n. max c.args.behind n) (c.acked-acked.ensures.slow slow stands) in (
      other_of slow _ stands to (c.is_other.ensures.yes c.if-not-is_other.false),
      has_all s (sym c.is_empty.ensures ∙ c.if-not-is_empty.false),
      c.write_frame_behind.ensures.bytes slow stands ∙ ap (λ n. frame_bytes (frame_behind slow to n)) start_is,
      c.write_frame_behind.ensures.brought slow stands ∙ ap (brought_behind slow to) start_is,
    )
