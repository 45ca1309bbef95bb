use Rattle.laws_simulation.proofs.PassesHold.{moves_on_law}
use Rattle.laws_simulation.proofs.survey.law_moves_on.Goals as goal

pub returns : goal.returns
returns c = moves_on_law
