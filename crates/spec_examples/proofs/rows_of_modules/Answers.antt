use Rattle.spec_examples.proofs.ModuleRowsHold.{module_rows}
use Rattle.spec_examples.proofs.rows_of_modules.Goals as goal

pub returns : goal.returns
returns c = module_rows
