use Rattle.cli_snap.proofs.ResumeEndLemmas.{resume_ends}
use Rattle.cli_snap.proofs.resume.laws.law_resume_ends.Goals as goal

pub returns : goal.returns
returns c = resume_ends
