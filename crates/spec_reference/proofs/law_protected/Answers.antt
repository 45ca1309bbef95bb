use Rattle.spec_reference.proofs.Runs.{protected}
use Rattle.spec_reference.proofs.law_protected.Goals as goal

pub returns : goal.returns
returns c = protected
