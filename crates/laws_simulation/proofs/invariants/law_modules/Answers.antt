use Rattle.laws_simulation.proofs.StateLawsHold.{modules_law}
use Rattle.laws_simulation.proofs.invariants.law_modules.Goals as goal

pub returns : goal.returns
returns c = modules_law
