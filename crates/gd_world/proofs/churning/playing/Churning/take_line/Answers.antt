use Rattle.std.proofs.Common.{refl, ◌∙◌}
use Rattle.gd_world.proofs.Following.{gets_line, room_left, stops_line}
use Rattle.gd_world.proofs.churning.playing.Churning.take_line.Goals as goal

pub returns-in_default : goal.returns-in_default
returns-in_default g c lines slow before follows
    = stops_line c.args.line.now _ _ follows (c.in_default.ensures slow.world follows.world)

pub add_all-requires : goal.add_all-requires
add_all-requires g c =
    room_left c.args.self.now c.args.steps.now c.args.line.now _ c.requires.ready c.requires.played
    (λ w stands. c.as_slice-said.ensures ∙ (c.in-Ok.ensures w stands).0)

pub returns : goal.returns
returns g c lines slow before follows =
    let a = c.in-Ok.ensures slow.world follows.world in
    gets_line c.args.line.now _ c.as_slice-said.result.now (c.as_slice-said.ensures ∙ a.0, a.1, a.2) c.keep_ids.result
    follows c.requires.played refl c.keep_ids.ensures c.add_all.ensures.counted c.add_all.ensures.few
