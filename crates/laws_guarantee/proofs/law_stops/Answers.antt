use Rattle.laws_guarantee.proofs.StopsHold.{stops_law}
use Rattle.laws_guarantee.proofs.law_stops.Goals as goal

pub returns : goal.returns
returns c = stops_law
