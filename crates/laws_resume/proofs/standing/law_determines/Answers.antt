use Rattle.laws_resume.proofs.Determines.{determines}
use Rattle.laws_resume.proofs.standing.law_determines.Goals as goal

pub returns : goal.returns
returns c = determines
