use Rattle.laws_simulation.proofs.EntriesHold.{entry_law}
use Rattle.laws_simulation.proofs.invariants.law_entry.Goals as goal

pub returns : goal.returns
returns c = entry_law
