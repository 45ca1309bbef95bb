use Rattle.laws_resume.proofs.Standings.{hart_in_may_attempt}
use Rattle.laws_resume.proofs.standing.law_hart_in.Goals as goal

pub returns : goal.returns
returns c = hart_in_may_attempt
