use Rattle.laws_simulation.proofs.TurnsServed.{step_law}
use Rattle.laws_simulation.proofs.law_step.Goals as goal

pub returns : goal.returns
returns c = step_law
