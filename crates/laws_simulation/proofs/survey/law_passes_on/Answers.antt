use Rattle.laws_simulation.proofs.RowsHold.{passes_on_law}
use Rattle.laws_simulation.proofs.survey.law_passes_on.Goals as goal

pub returns : goal.returns
returns c = passes_on_law
