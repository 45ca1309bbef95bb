use Rattle.cli_plans.specs.Plans.{run_plan}
use Rattle.cli_plans.specs.Words.{run_value}
use Rattle.secvisor_cli.specs.Ready.{Prepares, run_ready}
use Rattle.secvisor_cli.proofs.ReadyLemmas.{err_by}
use Rattle.secvisor_cli.proofs.image_run.prepare_run.Goals as goal

pub returns-in_err-prepare_measured-clause-prepares : goal.returns-in_err-prepare_measured-clause-prepares
returns-in_err-prepare_measured-clause-prepares g c =
    err_by _ c.in_err-prepare_measured.field-0.0
    (λ r. Prepares (run_plan (run_value c.args.asked.now)) (g.F.Files.state c.args.files.now) (g.F.Files.state c.prepare_measured.new.files) (run_ready r))
    c.from_residual.ensures.1 c.in_err-prepare_measured.ensures.prepares

pub returns-clause-draws : goal.returns-clause-draws
returns-clause-draws g c = c.in_ok-prepare_measured.ensures.draws
