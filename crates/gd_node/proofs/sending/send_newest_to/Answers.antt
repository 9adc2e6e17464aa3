use Rattle.std.proofs.Common.{◌≡◌, sym, ◌∙◌, subst}
use Rattle.gd_effects.proofs.Doing.{does_as, does_nothing}
use Rattle.gd_effects.proofs.OneTry.{one_frame}
use Rattle.gd_grammar.specs.FrameBytes.{frame_bytes}
use Rattle.gd_node.proofs.SlowFrames.{new_try, old_try, own_try}
use Rattle.gd_outside.specs.Links.{one_try}
use Rattle.gd_outside.specs.Told.{Grows}
use Rattle.gd_reference.specs.Offers.{frame_for}
use Rattle.gd_node.proofs.sending.send_newest_to.Goals as goal

pub returns-then-to-me-clause-sends : goal.returns-then-to-me-clause-sends
returns-then-to-me-clause-sends g c slow stands input output journal steps =
    does_as (own_try slow c.args.count c.args.to (c.if-to-me.true ∙ c.me.ensures.slow slow stands)) (does_nothing _)

pub returns-then-not-brings_newest-clause-sends : goal.returns-then-not-brings_newest-clause-sends
returns-then-not-brings_newest-clause-sends g c slow stands input output journal steps =
    does_as (old_try slow c.args.count c.args.to (c.made.ensures slow stands)
    (c.write_frame-brought.ensures.brought slow stands) c.brings_newest.ensures c.if-not-brings_newest.true)
    (does_nothing _)

pub returns-clause-sends : goal.returns-clause-sends
returns-clause-sends g c slow stands input output journal steps =
    let bytes : c.as_slice.result.now ≡ frame_bytes (frame_for slow c.args.to) = c.as_slice.ensures.bytes
    ∙ c.write_frame-brought.ensures.bytes slow stands in
    does_as (new_try slow c.args.count c.args.to (c.made.ensures slow stands)
    (c.write_frame-brought.ensures.brought slow stands) c.brings_newest.ensures c.if-not-brings_newest.false
    (λ e. c.if-to-me.false (e ∙ sym (c.me.ensures.slow slow stands))))
    (one_frame _ _ c.send.ensures.called.count input output journal steps c.args.to _ c.send.ensures.entries
    (subst (λ z. Grows (g.N.Link.seen c.args.link.now).tried (one_try c.args.to z)
    (g.N.Link.seen c.send.new.self).tried) bytes c.send.ensures.tried))
