use Rattle.laws_simulation.proofs.Views.{view_walks_inside}
use Rattle.laws_simulation.proofs.attempt.translation.law_walks_inside.Goals as goal

pub returns : goal.returns
returns c = view_walks_inside
