use Rattle.spec_examples.proofs.CallRowsHold.{call_rows}
use Rattle.spec_examples.proofs.rows_of_calls.Goals as goal

pub returns : goal.returns
returns c = call_rows
