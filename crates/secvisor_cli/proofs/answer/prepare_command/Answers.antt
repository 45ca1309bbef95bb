use Rattle.std.proofs.Common.{subst, sym}
use Rattle.cli_plans.specs.declared.words.Command.{Command as Asked}
use Rattle.cli_plans.specs.Words.{command_of}
use Rattle.cli_plans.specs.Plans.{command_plan, gen_plan, gen_due}
use Rattle.cli_plans.specs.Reading.{MayFollow}
use Rattle.secvisor_cli.specs.Ready.{Prepares}
use Rattle.secvisor_cli.proofs.ReadyLemmas.{judge_end}
use Rattle.secvisor_cli.proofs.answer.prepare_command.Goals as goal

pub prepare_flat-requires-clause-permitted : goal.prepare_flat-requires-clause-permitted
unfolding command_plan
prepare_flat-requires-clause-permitted g c = λ κs lives.
    rw c.in-Flat.is at c.requires.permitted

pub returns-in-Generated : goal.returns-in-Generated
unfolding command_plan gen_plan
returns-in-Generated g c =
    subst (λ (command : Asked). Prepares (command_plan (command_of command)) (g.F.Files.state c.args.files.now) (g.F.Files.state c.args.files.now) c.prepare_gen.result) (sym c.in-Generated.is)
    (judge_end (gen_due _) _ _ c.prepare_gen.ensures)

pub prepare_run-requires-clause-permitted : goal.prepare_run-requires-clause-permitted
unfolding command_plan
prepare_run-requires-clause-permitted g c κs within =
    subst (λ (command : Asked). MayFollow (command_plan (command_of command)) (g.F.Files.state c.args.files.now)) c.in-Run.is c.requires.permitted

pub prepare_policy-requires-clause-permitted : goal.prepare_policy-requires-clause-permitted
unfolding command_plan
prepare_policy-requires-clause-permitted g c κs within =
    subst (λ (command : Asked). MayFollow (command_plan (command_of command)) (g.F.Files.state c.args.files.now)) c.in-MakePolicy.is c.requires.permitted

pub prepare_converted-requires-clause-permitted : goal.prepare_converted-requires-clause-permitted
unfolding command_plan
prepare_converted-requires-clause-permitted g c κs within =
    subst (λ (command : Asked). MayFollow (command_plan (command_of command)) (g.F.Files.state c.args.files.now)) c.in-Convert.is c.requires.permitted
