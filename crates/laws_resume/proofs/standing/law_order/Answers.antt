use Rattle.laws_resume.proofs.Standings.{in_order}
use Rattle.laws_resume.proofs.standing.law_order.Goals as goal

pub returns : goal.returns
returns c = in_order
