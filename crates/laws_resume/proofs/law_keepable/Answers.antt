use Rattle.laws_resume.proofs.KeepableStarts.{keepable_law}
use Rattle.laws_resume.proofs.law_keepable.Goals as goal

pub returns : goal.returns
returns c = keepable_law
