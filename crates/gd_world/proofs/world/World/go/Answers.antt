use Rattle.std.specs.Prelude.{Ok}
use Rattle.gd_lines.specs.declared.command.ScriptLine.TheVariants as script
use Rattle.gd_world.proofs.Scripts.{goes_at, goes_delivered, goes_nothing, goes_read, goes_sent, goes_undelivered}
use Rattle.gd_world.proofs.Scripts.{goes_unsaid, goes_unsent}
use Rattle.gd_world.proofs.world.World.go.Goals as goal

pub returns-in-At : goal.returns-in-At
returns-in-At g c w stands =
    goes_read _ _ _ _ _ _ _ (script.At c.in-At.site c.in-At.command) c.in-At.is
    (goes_at w _ _ _ _ c.in-At.site c.in-At.command _ (c.line.ensures.answer w stands)
    (c.line.ensures.comes w stands))

pub returns-in_err-number-in-Send : goal.returns-in_err-number-in-Send
returns-in_err-number-in-Send g c w stands =
    let fell = c.in_err-number-in-Send.ensures in
    goes_read _ _ _ _ _ _ _ (script.Send c.in-Send.from c.in-Send.to) c.in-Send.is
    (goes_unsent w _ _ _ _ c.in-Send.from c.in-Send.to _ _ c.from_residual.ensures.1 (fell.answer w stands)
    (fell.comes w stands _))

pub returns-in_ok-number-in-Send : goal.returns-in_ok-number-in-Send
returns-in_ok-number-in-Send g c w stands =
    let done = c.in_ok-number-in-Send.ensures in
    goes_read _ _ _ _ _ _ _ (script.Send c.in-Send.from c.in-Send.to) c.in-Send.is
    (goes_sent w _ _ _ _ c.in-Send.from c.in-Send.to _ _ (done.answer w stands) (done.comes w stands _)
    c.only.ensures.ok c.only.ensures.err)

pub returns-in_err-replies-in-Deliver : goal.returns-in_err-replies-in-Deliver
returns-in_err-replies-in-Deliver g c w stands =
    let fell = c.in_err-replies-in-Deliver.ensures in
    goes_read _ _ _ _ _ _ _ (script.Deliver c.in-Deliver.mail) c.in-Deliver.is
    (goes_undelivered w _ _ _ _ c.in-Deliver.mail _ _ c.from_residual-in_err-replies-in-Deliver.ensures.1
    (fell.answer w stands) (fell.comes w stands))

pub returns-in_err-push-in-Deliver : goal.returns-in_err-push-in-Deliver
returns-in_err-push-in-Deliver g c w stands =
    goes_read _ _ _ _ _ _ _ (script.Deliver c.in-Deliver.mail) c.in-Deliver.is
    (goes_unsaid w _ _ _ _ c.in-Deliver.mail c.in_ok-replies-in-Deliver.replies _
    c.from_residual-in_err-push-in-Deliver.ensures.1 (c.in_ok-replies-in-Deliver.ensures.comes w stands))

pub returns-in_ok-push-in-Deliver : goal.returns-in_ok-push-in-Deliver
returns-in_ok-push-in-Deliver g c w stands =
    let done = c.in_ok-replies-in-Deliver.ensures in
    let all = c.push.new.self in
    goes_read w (Ok all) c.args.self.now c.deliver.new.self c.args.steps.now c.deliver.new.steps _
    (script.Deliver c.in-Deliver.mail) c.in-Deliver.is
    (goes_delivered w c.args.self.now c.deliver.new.self c.args.steps.now c.deliver.new.steps c.in-Deliver.mail
    c.in_ok-replies-in-Deliver.replies all (done.answer w stands) (done.comes w stands)
    c.in_ok-push-in-Deliver.ensures)

pub returns-in-Blank : goal.returns-in-Blank
returns-in-Blank g c w stands = goes_nothing w c.args.self.now c.args.steps.now stands _ c.in-Blank.is _ c.new.ensures
