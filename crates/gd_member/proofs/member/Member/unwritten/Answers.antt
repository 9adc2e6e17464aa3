use Rattle.std.proofs.Common.{ap, sym, ◌∙◌}
use Rattle.std.proofs.lemmas.List.{append_cancel_left}
use Rattle.gd_member.specs.Unwritten.{piece_of}
use Rattle.gd_member.proofs.member.Member.unwritten.Goals as goal

pub returns : goal.returns
returns c slow written others st held =
    let s = rw (← c.self.view_is) at st in
    c.bytes.ensures ∙ s.unwritten.bytes_are
    ∙ ap (piece_of written) (append_cancel_left written s.others others (sym s.held ∙ held))
