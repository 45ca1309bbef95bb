use Rattle.page_measure.proofs.FieldsInPieces.{right_law}
use Rattle.page_measure.proofs.fields.laws.law_fields_right.Goals as goal

pub returns : goal.returns
returns c = right_law
