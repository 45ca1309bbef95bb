use Rattle.laws_program.proofs.ProgramHolds.{program_law}
use Rattle.laws_program.proofs.law_program.Goals as goal

pub returns : goal.returns
returns c = program_law
