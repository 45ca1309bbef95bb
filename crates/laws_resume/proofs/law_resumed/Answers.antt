use Rattle.laws_resume.proofs.ResumedHolds.{resumed_law}
use Rattle.laws_resume.proofs.law_resumed.Goals as goal

pub returns : goal.returns
returns c = resumed_law
