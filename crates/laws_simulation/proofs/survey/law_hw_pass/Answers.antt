use Rattle.laws_simulation.proofs.HwPassesHold.{hw_pass_law}
use Rattle.laws_simulation.proofs.survey.law_hw_pass.Goals as goal

pub returns : goal.returns
returns c = hw_pass_law
