use Rattle.spec_examples.proofs.FlatRowsHold.{flat_rows}
use Rattle.spec_examples.proofs.rows_of_one_page.Goals as goal

pub returns : goal.returns
returns c = flat_rows
