use Rattle.policy_making.proofs.BoundWithin.{law_in_text}
use Rattle.policy_making.proofs.binding_laws.law_bound_in_text.Goals as goal

pub returns : goal.returns
returns c = law_in_text
