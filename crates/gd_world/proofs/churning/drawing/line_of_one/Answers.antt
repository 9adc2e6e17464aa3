use Rattle.std.proofs.Common.{rules}
use Rattle.gd_world.proofs.DrawnLines.{line_idles_at}
use Rattle.gd_world.proofs.churning.drawing.line_of_one.Goals as goal

pub returns-then-is_empty-clause-drawn : goal.returns-then-is_empty-clause-drawn
returns-then-is_empty-clause-drawn c mails
    = line_idles_at c.args.made.now mails c.args.site c.args.number c.args.generator.now (search rules) c.requires.from
    c.requires.to
