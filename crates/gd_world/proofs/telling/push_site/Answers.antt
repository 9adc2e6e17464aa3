use Rattle.gd_dialogue.proofs.Carrying.{on_ok_map}
use Rattle.gd_world.proofs.Who.{both_put}
use Rattle.gd_world.proofs.telling.push_site.Goals as goal

pub returns : goal.returns
returns c slow stands =
    on_ok_map c.push_parting.result
    (both_put slow c.args.number c.args.replies.now c.push_note.new.replies c.push_parting.new.replies
    (c.in_ok-push_note.ensures slow stands)) (c.push_parting.ensures slow stands)
