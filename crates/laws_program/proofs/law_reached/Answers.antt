use Rattle.laws_guarantee.proofs.ReachedHolds.{reached_law}
use Rattle.laws_program.proofs.law_reached.Goals as goal

pub returns : goal.returns
returns c = reached_law
