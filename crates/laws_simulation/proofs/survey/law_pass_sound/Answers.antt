use Rattle.laws_simulation.proofs.PassesHold.{pass_sound_law}
use Rattle.laws_simulation.proofs.survey.law_pass_sound.Goals as goal

pub returns : goal.returns
returns c = pass_sound_law
