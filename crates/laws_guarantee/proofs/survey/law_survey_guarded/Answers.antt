use Rattle.laws_guarantee.proofs.SurveysGuarded.{survey_guarded_law}
use Rattle.laws_guarantee.proofs.survey.law_survey_guarded.Goals as goal

pub returns : goal.returns
returns c = survey_guarded_law
