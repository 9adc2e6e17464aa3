use Rattle.std.proofs.Common.{◌≡◌, ◌∙◌, subst}
use Rattle.gd_effects.proofs.OneTry.{one_frame}
use Rattle.gd_grammar.specs.FrameBytes.{frame_bytes}
use Rattle.gd_outside.specs.Links.{one_try}
use Rattle.gd_outside.specs.Told.{Grows}
use Rattle.gd_reference.specs.Offers.{frame_behind}
use Rattle.gd_node.proofs.sending.send_behind.Goals as goal

pub returns-clause-sends : goal.returns-clause-sends
returns-clause-sends g c slow stands input output journal steps =
    let bytes : c.as_slice.result.now ≡ frame_bytes (frame_behind slow c.args.to c.args.behind) =
    c.as_slice.ensures.bytes ∙ c.write_frame_behind-brought.ensures.bytes slow stands in
    one_frame _ _ c.send.ensures.called.count input output journal steps c.args.to _ c.send.ensures.entries
    (subst (λ z. Grows (g.N.Link.seen c.args.link.now).tried (one_try c.args.to z)
    (g.N.Link.seen c.send.new.self).tried) bytes c.send.ensures.tried)
