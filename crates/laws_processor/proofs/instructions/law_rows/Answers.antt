use Rattle.laws_processor.proofs.ApartRows.{at_most_one_row}
use Rattle.laws_processor.proofs.instructions.law_rows.Goals as goal

pub returns : goal.returns
returns c = at_most_one_row
