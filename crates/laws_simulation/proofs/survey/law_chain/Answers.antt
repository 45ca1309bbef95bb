use Rattle.laws_simulation.proofs.SurveysHold.{chain_law}
use Rattle.laws_simulation.proofs.survey.law_chain.Goals as goal

pub returns : goal.returns
returns c = chain_law
