use Rattle.laws_simulation.proofs.TurnsServed.{again_law}
use Rattle.laws_simulation.proofs.law_again.Goals as goal

pub returns : goal.returns
returns c = again_law
