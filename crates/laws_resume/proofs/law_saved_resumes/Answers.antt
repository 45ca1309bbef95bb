use Rattle.laws_resume.proofs.SavedResumes.{saved_resumes_law}
use Rattle.laws_resume.proofs.law_saved_resumes.Goals as goal

pub returns : goal.returns
returns c = saved_resumes_law
