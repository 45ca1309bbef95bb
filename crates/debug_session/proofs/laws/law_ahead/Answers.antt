use Rattle.debug_session.proofs.RunLawsHold.{ahead_law}
use Rattle.debug_session.proofs.laws.law_ahead.Goals as goal

pub returns : goal.returns
returns c = ahead_law
