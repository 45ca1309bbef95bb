use Rattle.spec_examples.proofs.GuestRowsHold.{guest_rows}
use Rattle.spec_examples.proofs.rows_of_guests.Goals as goal

pub returns : goal.returns
returns c = guest_rows
