use Rattle.laws_resume.proofs.SavedForms.{saved_form_law}
use Rattle.laws_resume.proofs.law_saved_form.Goals as goal

pub returns : goal.returns
returns c = saved_form_law
