use Rattle.laws_simulation.proofs.SurveysHold.{surveyed_law}
use Rattle.laws_simulation.proofs.survey.law_surveyed.Goals as goal

pub returns : goal.returns
returns c = surveyed_law
