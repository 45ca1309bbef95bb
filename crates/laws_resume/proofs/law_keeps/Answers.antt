use Rattle.laws_resume.proofs.KeepableSteps.{keeps_law}
use Rattle.laws_resume.proofs.law_keeps.Goals as goal

pub returns : goal.returns
returns c = keeps_law
