use Rattle.spec_examples.proofs.FieldRowsHold.{field_rows}
use Rattle.spec_examples.proofs.rows_of_fields.Goals as goal

pub returns : goal.returns
returns c = field_rows
