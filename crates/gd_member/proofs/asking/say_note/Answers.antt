use Rattle.gd_member.proofs.Texts.{note_told}
use Rattle.gd_member.proofs.asking.say_note.Goals as goal

pub returns-clause-said : goal.returns-clause-said
returns-clause-said c slow stands =
    note_told slow c.args.number c.note-note.result (c.note-note.ensures slow stands) c.if-note-eq0.false
    c.args.said.now c.add_note.new.said
    c.in_ok-add_note.ensures
