use Rattle.laws_resume.proofs.Loads.{loaded_approved}
use Rattle.laws_resume.proofs.standing.law_loaded.Goals as goal

pub returns : goal.returns
returns c = loaded_approved
