use Rattle.laws_guarantee.proofs.LawsHold.{entries_law}
use Rattle.laws_guarantee.proofs.law_entries.Goals as goal

pub returns : goal.returns
returns c = entries_law
