use Rattle.laws_simulation.proofs.SurveysHold.{same_run_law}
use Rattle.laws_simulation.proofs.survey.law_same_run.Goals as goal

pub returns : goal.returns
returns c = same_run_law
