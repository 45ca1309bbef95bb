use Rattle.laws_simulation.proofs.AttemptLawHolds.{attempt_law}
use Rattle.laws_simulation.proofs.attempt.law_attempts.Goals as goal

pub returns : goal.returns
returns c = attempt_law
