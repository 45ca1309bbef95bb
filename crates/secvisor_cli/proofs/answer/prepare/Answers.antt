use Rattle.std.proofs.Common.{map, string_bytes}
use Rattle.cli_plans.specs.CommandLine.{judgement_of_words}
use Rattle.cli_plans.specs.Words.{command_of}
use Rattle.cli_plans.specs.Plans.{command_plan, plan_of}
use Rattle.cli_plans.proofs.PlanLemmas.{asked_may}
use Rattle.secvisor_cli.specs.Ready.{Prepares, stop_of_unread}
use Rattle.secvisor_cli.proofs.ReadyLemmas.{err_by}
use Rattle.secvisor_cli.proofs.StageLemmas.{words_unread, words_ready}
use Rattle.secvisor_cli.proofs.answer.prepare.Goals as goal

pub returns-in_err-command : goal.returns-in_err-command
returns-in_err-command g c =
    err_by _ (stop_of_unread c.in_err-command.field-0.0) (λ r. Prepares (plan_of (judgement_of_words (map string_bytes c.args.words.now))) (g.F.Files.state c.args.files.now)
    (g.F.Files.state c.args.files.now) r)
    c.from_residual.ensures.1
    (words_unread command_plan command_of _ c.in_err-command.field-0.0 _ c.in_err-command.ensures.asked)

pub prepare_command-requires-clause-permitted : goal.prepare_command-requires-clause-permitted
prepare_command-requires-clause-permitted g c = λ κs lives.
    asked_may command_plan _ (command_of c.in_ok-command.command) _ c.in_ok-command.ensures.asked c.requires.permitted

pub returns : goal.returns
returns g c = words_ready command_plan _ (command_of c.in_ok-command.command) _ _ c.prepare_command.result c.in_ok-command.ensures.asked c.prepare_command.ensures
