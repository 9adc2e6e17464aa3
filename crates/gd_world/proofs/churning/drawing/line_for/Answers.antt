use Rattle.std.proofs.Common.{◌∙◌, sym, ap}
use Rattle.rand_pcg.specs.Lcg.{Lcg}
use Rattle.gd_lines.specs.Edits.{Edit}
use Rattle.gd_world.proofs.DrawnLines.{line_creates, line_delivers, line_redoes, line_sends, line_undoes}
use Rattle.gd_world.specs.Drawn.{edit_at}
use Rattle.gd_world.proofs.churning.drawing.line_for.Goals as goal

pub returns-then-number-lt4-clause-drawn : goal.returns-then-number-lt4-clause-drawn
returns-then-number-lt4-clause-drawn c =
    ap (λ line. (line, c.create-edit.new.generator)) c.asks.ensures.line
    ∙ ap (λ (p : Edit × Lcg). (edit_at c.args.site p.0, p.1)) c.create-edit.ensures.drawn
    ∙ sym (ap (λ d. d c.args.generator.now)
    (line_creates c.args.made.now c.args.mails c.args.site c.args.number c.if-number-lt4.true))

pub returns-then-number-lt14-clause-drawn : goal.returns-then-number-lt14-clause-drawn
returns-then-number-lt14-clause-drawn c =
    c.send.ensures.drawn ∙ sym
    (ap (λ d. d c.args.generator.now)
    (line_sends c.args.made.now c.args.mails c.args.site c.args.number c.if-number-lt12.false
    c.if-number-lt14.true))

pub returns-then-number-lt16-clause-drawn : goal.returns-then-number-lt16-clause-drawn
returns-then-number-lt16-clause-drawn c =
    c.deliver.ensures.drawn
    ∙ sym (ap (λ d. d c.args.generator.now)
    (line_delivers c.args.made.now c.args.mails c.args.site c.args.number c.if-number-lt14.false c.if-number-lt16.true))

pub returns-then-number-eq16-clause-drawn : goal.returns-then-number-eq16-clause-drawn
returns-then-number-eq16-clause-drawn c =
    ap (λ line. (line, c.args.generator.now)) c.turns.ensures.line
    ∙ sym (ap (λ d. d c.args.generator.now)
    (line_undoes c.args.made.now c.args.mails c.args.site c.args.number c.if-number-eq16.true))

pub returns-then-number-eq17-clause-drawn : goal.returns-then-number-eq17-clause-drawn
returns-then-number-eq17-clause-drawn c =
    ap (λ line. (line, c.args.generator.now)) c.turns-then-number-eq17.ensures.line
    ∙ sym (ap (λ d. d c.args.generator.now)
    (line_redoes c.args.made.now c.args.mails c.args.site c.args.number c.if-number-eq17.true))
