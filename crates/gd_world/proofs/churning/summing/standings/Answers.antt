use Rattle.std.proofs.Common.{◌≡◌, ℕ, ◌+◌, [], ◌∷◌, ◌++◌, List, map, take, ◌∙◌, ap, ap₂, arith}
use Rattle.gd_base.specs.declared.site_status.SiteStatus.{SiteStatus}
use Rattle.gd_lines.specs.declared.reply.Reply.{Reply}
use Rattle.gd_lines.specs.declared.reply.Reply.TheVariants as reply
use Rattle.gd_worlds.specs.Churn.{site_reply}
use Rattle.gd_world.proofs.Summed.{four, four_more}
use Rattle.gd_world.proofs.churning.summing.standings.Goals as goal

pub loop-before-preserved : goal.loop-before-preserved
loop-before-preserved c w stands =
    let site = c.loop-before.before + 1 in
    c.in_ok-push.ensures
    ∙ ap₂ (λ (rs : List Reply) (status : SiteStatus). rs ++ reply.SiteLine site status ∷ [])
    (c.loop-before.invariant w stands) (c.status-status.ensures (w.at site) (c.site.ensures.stands w stands))
    ∙ four_more (site_reply w) c.loop-before.before c.loop-before-test.true

pub returns : goal.returns
returns c w stands =
    let done : c.loop-before.before ≡ 4 = omega arith in
    c.loop-before.invariant w stands ∙ ap (λ (k : ℕ). map (site_reply w) (take k four)) done
