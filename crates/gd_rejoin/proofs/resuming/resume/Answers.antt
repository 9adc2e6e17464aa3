use Rattle.std.specs.Prelude.{IsSome}
use Rattle.gd_outside.specs.Told.{told}
use Rattle.gd_rejoin.proofs.ResumeLemmas.{pays-first, resume-is, resume-stands, stands-kept}
use Rattle.gd_rejoin.proofs.resuming.resume.Goals as goal

pub returns-clause-exact : goal.returns-clause-exact
returns-clause-exact g c = λ is_told.
    resume-is c.args.header.now c.in_ok-log.log.events c.args.steps.now c.site_of.new.steps
    (told (g.J.Journal.seen c.synced_log.new.journal).contents) c.site_of.result
    (c.in_ok-log.ensures.log.closes is_told) c.site_of.ensures.goes_on c.site_of.ensures.memory

pub returns-clause-goes_on : goal.returns-clause-goes_on
returns-clause-goes_on g c =
    resume-stands c.args.header.now c.in_ok-log.log.events c.args.steps.now c.site_of.new.steps c.site_of.result
    (g.J.Journal.seen c.synced_log.new.journal) c.site_of.ensures.goes_on
    (λ is_told. stands-kept c.args.header.now c.in_ok-log.log.events _ _ (c.in_ok-log.ensures.kept is_told)
    (c.in_ok-log.ensures.log.closes is_told))

pub returns-clause-err_steps : goal.returns-clause-err_steps
returns-clause-err_steps g c =
    pays-first c.args.header.now c.in_ok-log.log.events c.args.steps.now c.site_of.new.steps
    (IsSome (g.J.Journal.seen c.synced_log.new.journal).contents)
    (told (g.J.Journal.seen c.synced_log.new.journal).contents) c.site_of.result
    c.in_ok-log.ensures.log.closes c.site_of.ensures.err_steps
