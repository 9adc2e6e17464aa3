use Rattle.std.proofs.Common.{ℕ, ap, ◌∙◌}
use Rattle.gd_grammar.specs.FrameBytes.{frame_bytes}
use Rattle.gd_reference.specs.Offers.{brought_behind, frame_behind}
use Rattle.gd_site.proofs.site.Site.write_frame.Goals as goal

pub returns-clause-bytes : goal.returns-clause-bytes
returns-clause-bytes c slow stands =
    c.write_frame_behind.ensures.bytes slow stands
    ∙ ap (λ (k : ℕ). frame_bytes (frame_behind slow c.args.to k)) (c.acked.ensures.slow slow stands)

pub returns-clause-brought : goal.returns-clause-brought
returns-clause-brought c slow stands =
    c.write_frame_behind.ensures.brought slow stands
    ∙ ap (λ (k : ℕ). brought_behind slow c.args.to k) (c.acked.ensures.slow slow stands)
