use Rattle.laws_guarantee.proofs.SurveysGuarded.{survey_bytes_law}
use Rattle.laws_guarantee.proofs.survey.law_survey_bytes.Goals as goal

pub returns : goal.returns
returns c = survey_bytes_law
