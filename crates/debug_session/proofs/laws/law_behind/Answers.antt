use Rattle.debug_session.proofs.RunLawsHold.{behind_law}
use Rattle.debug_session.proofs.laws.law_behind.Goals as goal

pub returns : goal.returns
returns c = behind_law
