use Rattle.std.proofs.Common.{◌∙◌, ap}
use Rattle.gd_site.specs.Answers.{checked}
use Rattle.gd_viewer.proofs.Beating.{refused_is}
use Rattle.gd_viewer.proofs.viewer.Viewer.check_frame.Goals as goal

pub returns : goal.returns
returns c = λ slow stands. c.check_head.ensures
    ∙ ap checked (refused_is slow c.args.self.now stands c.args.frame.now.head)
