use Rattle.std.proofs.Common.{◌∙◌}
use Rattle.std.proofs.lemmas.Result.{IfOk-weaker}
use Rattle.gd_site.proofs.Deciding.{back_is}
use Rattle.gd_site.proofs.site.Site.back.Goals as goal

pub returns : goal.returns
returns c =
    let same = rw (c.stamp.ensures, c.op.ensures.op, c.document.ensures) at c.back.ensures in
    rw (← c.self.view_is)
    (λ slow stands. IfOk-weaker c.back.result _ _ (λ op is. is ∙ back_is slow _ stands c.args.event.now) same)
