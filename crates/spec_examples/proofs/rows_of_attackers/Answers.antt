use Rattle.spec_examples.proofs.AttackerRowsHold.{attacker_rows}
use Rattle.spec_examples.proofs.rows_of_attackers.Goals as goal

pub returns : goal.returns
returns c = attacker_rows
