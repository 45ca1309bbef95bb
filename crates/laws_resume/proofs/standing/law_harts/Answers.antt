use Rattle.laws_resume.proofs.Standings.{hart_may_attempt}
use Rattle.laws_resume.proofs.standing.law_harts.Goals as goal

pub returns : goal.returns
returns c = hart_may_attempt
