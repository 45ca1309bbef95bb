use Rattle.policy_making.proofs.BoundWithin.{law_within}
use Rattle.policy_making.proofs.binding_laws.law_bound_within_limits.Goals as goal

pub returns : goal.returns
returns c = law_within
