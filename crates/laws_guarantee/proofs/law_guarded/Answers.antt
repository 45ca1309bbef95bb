use Rattle.laws_guarantee.proofs.GuardedHolds.{guarded_law}
use Rattle.laws_guarantee.proofs.law_guarded.Goals as goal

pub returns : goal.returns
returns c = guarded_law
