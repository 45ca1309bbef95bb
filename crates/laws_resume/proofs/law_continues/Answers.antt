use Rattle.laws_resume.proofs.ContinuesHolds.{continues_law}
use Rattle.laws_resume.proofs.law_continues.Goals as goal

pub returns : goal.returns
returns c = continues_law
