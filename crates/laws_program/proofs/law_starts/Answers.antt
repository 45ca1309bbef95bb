use Rattle.laws_program.proofs.PlansRun.{starts_law}
use Rattle.laws_program.proofs.law_starts.Goals as goal

pub returns : goal.returns
returns c = starts_law
