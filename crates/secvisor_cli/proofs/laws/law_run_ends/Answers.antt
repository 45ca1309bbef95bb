use Rattle.secvisor_cli.proofs.DueLemmas.{run_ends}
use Rattle.secvisor_cli.proofs.laws.law_run_ends.Goals as goal

pub returns : goal.returns
returns c = run_ends
