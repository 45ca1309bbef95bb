use Rattle.laws_guarantee.proofs.LawsHold.{protected_bytes_law}
use Rattle.laws_guarantee.proofs.law_protected_bytes.Goals as goal

pub returns : goal.returns
returns c = protected_bytes_law
