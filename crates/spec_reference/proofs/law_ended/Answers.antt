use Rattle.spec_reference.proofs.Runs.{ended_stays}
use Rattle.spec_reference.proofs.law_ended.Goals as goal

pub returns : goal.returns
returns c = ended_stays
