use Rattle.laws_simulation.proofs.LawsHold.{exit_law}
use Rattle.laws_simulation.proofs.law_exit.Goals as goal

pub returns : goal.returns
returns c = exit_law
