use Rattle.spec_examples.proofs.TurnRowsHold.{turn_rows}
use Rattle.spec_examples.proofs.rows_of_turns.Goals as goal

pub returns : goal.returns
returns c = turn_rows
