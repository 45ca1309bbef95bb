use Rattle.laws_resume.proofs.StartsStand.{flat_start_law}
use Rattle.laws_resume.proofs.standing.start.law_flat_start.Goals as goal

pub returns : goal.returns
returns c = flat_start_law
