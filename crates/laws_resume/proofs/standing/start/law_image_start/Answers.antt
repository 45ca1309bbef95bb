use Rattle.laws_resume.proofs.StartsStand.{image_start_law}
use Rattle.laws_resume.proofs.standing.start.law_image_start.Goals as goal

pub returns : goal.returns
returns c = image_start_law
