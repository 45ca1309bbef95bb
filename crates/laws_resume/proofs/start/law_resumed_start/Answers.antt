use Rattle.laws_resume.proofs.ResumedStands.{resumed_start_law}
use Rattle.laws_resume.proofs.start.law_resumed_start.Goals as goal

pub returns : goal.returns
returns c = resumed_start_law
