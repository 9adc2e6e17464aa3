use Rattle.std.proofs.Common.{ap, ◌∙◌}
use Rattle.gd_base.proofs.Lists.{Every-at}
use Rattle.gd_base.specs.declared.verdict.Verdict.{Verdict}
use Rattle.gd_grammar.specs.FrameBytes.{IsFrame}
use Rattle.gd_reference.specs.NodeRun.{most_datagrams}
use Rattle.gd_reference.specs.SiteEffects.{of_verdict}
use Rattle.gd_reference.specs.World.{after}
use Rattle.gd_protocol.proofs.Delivered.{done_datagram, received_mail}
use Rattle.gd_protocol.proofs.Interleavings.{all_taken, kept_after}
use Rattle.gd_protocol.proofs.Ranged.{ranged_after}
use Rattle.gd_protocol.proofs.laws.a_poll_of_mail_is_deliveries.Goals as goal

pub returns-clause-site : goal.returns-clause-site
returns-clause-site c sites session steps s ks es run b few =
    received_mail most_datagrams 0 (after sites session steps) s ks es
    (ranged_after sites session steps run).frames b few

pub returns-clause-taken : goal.returns-clause-taken
returns-clause-taken c sites session steps k f run there =
    let w = after sites session steps in
    done_datagram (w.at f.head.to) f (Every-at IsFrame w.mail k f (ranged_after sites session steps run).frames there)
    ∙ ap (λ (v : Verdict). of_verdict (w.at f.head.to) f v) (all_taken w (kept_after sites session steps) k f there)
