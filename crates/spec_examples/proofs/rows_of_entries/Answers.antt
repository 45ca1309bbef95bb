use Rattle.spec_examples.proofs.EntryRowsHold.{entry_rows}
use Rattle.spec_examples.proofs.rows_of_entries.Goals as goal

pub returns : goal.returns
returns c = entry_rows
