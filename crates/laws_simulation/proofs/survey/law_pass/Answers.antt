use Rattle.laws_simulation.proofs.PassesHold.{pass_law}
use Rattle.laws_simulation.proofs.survey.law_pass.Goals as goal

pub returns : goal.returns
returns c = pass_law
