use Rattle.laws_program.proofs.TextMeasured.{measured_law}
use Rattle.laws_program.proofs.law_measured.Goals as goal

pub returns : goal.returns
returns c = measured_law
