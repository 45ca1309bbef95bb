use Rattle.laws_resume.proofs.EventsCounted.{counted_law}
use Rattle.laws_resume.proofs.law_counted.Goals as goal

pub returns : goal.returns
returns c = counted_law
