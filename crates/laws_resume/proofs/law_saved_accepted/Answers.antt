use Rattle.laws_resume.proofs.SavedAccepted.{saved_accepted_law}
use Rattle.laws_resume.proofs.law_saved_accepted.Goals as goal

pub returns : goal.returns
returns c = saved_accepted_law
