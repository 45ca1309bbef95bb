use Rattle.laws_resume.proofs.Standings.{no_entry}
use Rattle.laws_resume.proofs.standing.law_no_entry.Goals as goal

pub returns : goal.returns
returns c = no_entry
