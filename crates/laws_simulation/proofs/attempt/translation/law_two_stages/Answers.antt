use Rattle.laws_simulation.proofs.Views.{two_stages_under_view}
use Rattle.laws_simulation.proofs.attempt.translation.law_two_stages.Goals as goal

pub returns : goal.returns
returns c = two_stages_under_view
