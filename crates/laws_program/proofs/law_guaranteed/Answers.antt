use Rattle.laws_program.proofs.Guaranteed.{guaranteed_law}
use Rattle.laws_program.proofs.law_guaranteed.Goals as goal

pub returns : goal.returns
returns c = guaranteed_law
