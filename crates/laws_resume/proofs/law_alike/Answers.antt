use Rattle.laws_resume.proofs.AlikeSteps.{alike_law}
use Rattle.laws_resume.proofs.law_alike.Goals as goal

pub returns : goal.returns
returns c = alike_law
