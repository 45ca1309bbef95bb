use Rattle.spec_reference.proofs.Runs.{run_on}
use Rattle.spec_reference.proofs.law_runs.Goals as goal

pub returns : goal.returns
returns c = run_on
