use Rattle.laws_simulation.proofs.LawsHold.{quiet_law}
use Rattle.laws_simulation.proofs.law_quiet.Goals as goal

pub returns : goal.returns
returns c = quiet_law
