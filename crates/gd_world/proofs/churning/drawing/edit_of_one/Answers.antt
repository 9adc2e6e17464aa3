use Rattle.std.proofs.Common.{true, arith}
use Rattle.gd_base.specs.declared.content.Content.TheVariants.{ToFlag, ToRank}
use Rattle.gd_base.specs.declared.content.Side.TheVariants.{Top}
use Rattle.gd_base.specs.declared.op.Op.TheVariants as wish
use Rattle.gd_world.proofs.DrawnLines.{changed, line_connects, line_deletes, line_groups, line_moves, line_of_one}
use Rattle.gd_world.proofs.DrawnLines.{line_raises, line_reconnects, line_strokes, line_styles, line_ungroups}
use Rattle.gd_world.proofs.DrawnLines.{line_writes}
use Rattle.gd_worlds.specs.Churn.{change, connect, group, move, reconnect, stroke, style, write}
use Rattle.gd_world.proofs.churning.drawing.edit_of_one.Goals as goal

pub returns-in-7-clause-drawn : goal.returns-in-7-clause-drawn
returns-in-7-clause-drawn c mails site =
    line_of_one _ _ _ mails site _ (change wish.Delete) _ (line_deletes _ mails site _ c.in-7.is)
    (changed _ _ wish.Delete _ _ c.pick.ensures.drawn)

pub returns-in-8-clause-drawn : goal.returns-in-8-clause-drawn
returns-in-8-clause-drawn c mails site =
    line_of_one _ _ _ mails site _ (change (λ id. wish.Set id (ToRank Top))) _ (line_raises _ mails site _ c.in-8.is)
    (changed _ _ (λ id. wish.Set id (ToRank Top)) _ _ c.pick-in-8.ensures.drawn)

pub returns-in-9-clause-drawn : goal.returns-in-9-clause-drawn
returns-in-9-clause-drawn c mails site =
    line_of_one _ _ _ mails site _ group _ (line_groups _ mails site _ c.in-9.is) c.group.ensures.drawn

pub returns-in-10-clause-drawn : goal.returns-in-10-clause-drawn
returns-in-10-clause-drawn c mails site =
    line_of_one _ _ _ mails site _ (change (λ id. wish.Set id (ToFlag true))) _
    (line_ungroups _ mails site _ c.in-10.is)
    (changed _ _ (λ id. wish.Set id (ToFlag true)) _ _ c.pick-in-10.ensures.drawn)

pub returns-in-11-clause-drawn : goal.returns-in-11-clause-drawn
returns-in-11-clause-drawn c mails site =
    line_of_one _ _ _ mails site _ stroke _ (line_strokes _ mails site _ c.in-11.is) c.stroke.ensures.drawn

pub returns-in-18-clause-drawn : goal.returns-in-18-clause-drawn
returns-in-18-clause-drawn c mails site =
    line_of_one _ _ _ mails site _ connect _ (line_connects _ mails site _ c.in-18.is) c.connect.ensures.drawn

pub returns-in-19-clause-drawn : goal.returns-in-19-clause-drawn
returns-in-19-clause-drawn c mails site =
    line_of_one _ _ _ mails site _ reconnect _ (line_reconnects _ mails site _ c.in-19.is) c.reconnect.ensures.drawn

pub returns-in-20-clause-drawn : goal.returns-in-20-clause-drawn
returns-in-20-clause-drawn c mails site =
    line_of_one _ _ _ mails site _ style _ (line_styles _ mails site _ c.in-20.is) c.style.ensures.drawn

pub returns-in-21-to-4294967295-clause-drawn : goal.returns-in-21-to-4294967295-clause-drawn
returns-in-21-to-4294967295-clause-drawn c mails site =
    line_of_one _ _ _ mails site _ write _ (line_writes _ mails site _ (omega arith)) c.write.ensures.drawn

pub returns-in_default-clause-drawn : goal.returns-in_default-clause-drawn
returns-in_default-clause-drawn c mails site =
    line_of_one _ _ _ mails site _ move _ (line_moves _ mails site _ c.requires.from (omega arith))
    c.move_to.ensures.drawn
