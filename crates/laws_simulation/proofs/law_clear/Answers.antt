use Rattle.laws_simulation.proofs.RunsReach.{clear_law}
use Rattle.laws_simulation.proofs.law_clear.Goals as goal

pub returns : goal.returns
returns c = clear_law
