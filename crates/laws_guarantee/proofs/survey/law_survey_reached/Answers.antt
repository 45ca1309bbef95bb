use Rattle.laws_guarantee.proofs.SurveysGuarded.{survey_reached_law}
use Rattle.laws_guarantee.proofs.survey.law_survey_reached.Goals as goal

pub returns : goal.returns
returns c = survey_reached_law
