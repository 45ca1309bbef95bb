use Rattle.laws_simulation.proofs.RunsReach.{reaches_law}
use Rattle.laws_simulation.proofs.law_reaches.Goals as goal

pub returns : goal.returns
returns c = reaches_law
