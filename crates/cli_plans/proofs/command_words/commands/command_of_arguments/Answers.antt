use Rattle.std.proofs.Common.{◌∙◌, ◌+◌, ◌||◌, ap, ap₂, drop, map, sym}
use Rattle.std.specs.List.{fold}
use Rattle.std.proofs.lemmas.List.{at_drop_more}
use Rattle.clap.specs.Words.{App, Rule, app_of, with_rule}
use Rattle.cli_plans.specs.Parsing.{want_of, with_want}
use Rattle.cli_plans.proofs.command_words.commands.command_of_arguments.Goals as goal

pub loop-argument-preserved : goal.loop-argument-preserved
loop-argument-preserved c =
    let i = c.loop-argument.argument-index in
    let before = app_of c.loop-argument.command in
    let adds = c.in_ok-command.ensures in
    let app = adds.shape c.arg_of.ensures.local ∙ ap (λ (rule : Rule). with_rule before rule) c.arg_of.ensures.rule in
    let this = at_drop_more (λ arguments. fold with_want before (map want_of arguments)) c.args.arguments.now i _ c.loop-argument-test.true in (
      ap (λ (a : App). fold with_want a (map want_of (drop (i + 1) c.args.arguments.now))) app ∙ sym this ∙ c.loop-argument.invariant.0,
      adds.globals ∙ ap₂ (λ a b. a || b) c.loop-argument.invariant.1 c.arg_of.ensures.local,
    )
