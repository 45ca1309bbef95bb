use Rattle.laws_resume.proofs.Loads.{loading_held}
use Rattle.laws_resume.proofs.standing.law_loading.Goals as goal

pub returns : goal.returns
returns c = loading_held
