use Rattle.laws_program.proofs.ResumesRun.{resume_law}
use Rattle.laws_program.proofs.law_resume.Goals as goal

pub returns : goal.returns
returns c = resume_law
