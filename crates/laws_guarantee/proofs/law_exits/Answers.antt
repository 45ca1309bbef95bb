use Rattle.laws_guarantee.proofs.LawsHold.{exits_law}
use Rattle.laws_guarantee.proofs.law_exits.Goals as goal

pub returns : goal.returns
returns c = exits_law
