use Rattle.laws_simulation.proofs.StepsGrow.{grows_law}
use Rattle.laws_simulation.proofs.invariants.law_grows.Goals as goal

pub returns : goal.returns
returns c = grows_law
