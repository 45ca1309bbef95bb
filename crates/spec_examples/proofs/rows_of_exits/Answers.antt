use Rattle.spec_examples.proofs.ExitRowsHold.{exit_rows}
use Rattle.spec_examples.proofs.rows_of_exits.Goals as goal

pub returns : goal.returns
returns c = exit_rows
