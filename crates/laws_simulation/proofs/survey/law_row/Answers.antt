use Rattle.laws_simulation.proofs.RowsHold.{row_law}
use Rattle.laws_simulation.proofs.survey.law_row.Goals as goal

pub returns : goal.returns
returns c = row_law
