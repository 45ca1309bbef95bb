use Rattle.page_measure.proofs.FieldsInPieces.{mask_law}
use Rattle.page_measure.proofs.fields.laws.law_mask.Goals as goal

pub returns : goal.returns
returns c = mask_law
