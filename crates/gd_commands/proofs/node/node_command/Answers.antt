use Rattle.std.proofs.Common.{◌≡◌, ◌∙◌, false, ap₂}
use Rattle.std.proofs.lemmas.Result.{IfOk-weaker}
use Rattle.clap.specs.Words.{AddsArg, App, Rule, app_of, rule_of, with_rule}
use Rattle.clap.specs.declared.builder.arg.Arg.{Arg}
use Rattle.clap.specs.declared.builder.command.Command.{Command}
use Rattle.gd_commands.proofs.node.node_command.Goals as goal

-- one argument more
added : (old : Command) (arg : Arg) (new : Command) (a : App) (rule : Rule) → app_of old ≡ a → rule_of arg ≡ rule
    → arg.global ≡ false
    → AddsArg old arg new → app_of new ≡ with_rule a rule
added old arg new a rule is same local adds = adds.shape local ∙ ap₂ with_rule is same

pub returns : goal.returns
returns c =
    let resume = added _ _ _ _ _ c.bare.ensures c.flag.ensures.rule c.flag.ensures.local c.in_ok-arg.ensures in
    let session = added _ _ _ _ _ resume c.value.ensures.rule c.value.ensures.local c.in_ok-arg-2.ensures in
    let site = added _ _ _ _ _ session c.value-2.ensures.rule c.value-2.ensures.local c.in_ok-arg-3.ensures in
    let journal = added _ _ _ _ _ site c.value-3.ensures.rule c.value-3.ensures.local c.in_ok-arg-4.ensures in
    IfOk-weaker c.arg-5.result _ _ (λ r. added _ _ r _ _ journal c.addresses.ensures.rule c.addresses.ensures.local)
    c.arg-5.ensures
