use Rattle.policy_making.proofs.MadeWithin.{policy_within}
use Rattle.policy_making.proofs.laws.law_within_limits.Goals as goal

pub returns : goal.returns
returns c = policy_within
