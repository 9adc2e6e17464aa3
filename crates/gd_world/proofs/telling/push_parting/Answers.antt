use Rattle.std.proofs.Common.{sym, ◌∙◌, append-nil}
use Rattle.gd_dialogue.proofs.Carrying.{on_ok_map}
use Rattle.gd_world.proofs.Who.{parting_put}
use Rattle.gd_world.proofs.telling.push_parting.Goals as goal

pub returns-in-None : goal.returns-in-None
returns-in-None c slow stands =
    sym (append-nil c.args.replies.now)
    ∙ parting_put slow c.args.number c.args.replies.now _ (sym c.in-None.is ∙ c.parted.ensures slow stands)

pub returns-in-Some : goal.returns-in-Some
returns-in-Some c slow stands =
    on_ok_map c.push.result
    (λ is. is ∙ parting_put slow c.args.number c.args.replies.now _ (sym c.in-Some.is ∙ c.parted.ensures slow stands))
    c.push.ensures
