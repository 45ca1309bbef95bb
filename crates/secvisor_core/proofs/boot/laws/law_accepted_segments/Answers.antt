use Rattle.secvisor_core.proofs.Accepted.{accepted_placed}
use Rattle.secvisor_core.proofs.boot.laws.law_accepted_segments.Goals as goal

pub returns : goal.returns
returns c = accepted_placed
