use Rattle.laws_simulation.proofs.ExitsMirrored.{tables_law}
use Rattle.laws_simulation.proofs.law_tables.Goals as goal

pub returns : goal.returns
returns c = tables_law
