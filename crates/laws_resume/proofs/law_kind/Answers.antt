use Rattle.laws_resume.proofs.KindsStay.{kind_law}
use Rattle.laws_resume.proofs.law_kind.Goals as goal

pub returns : goal.returns
returns c = kind_law
