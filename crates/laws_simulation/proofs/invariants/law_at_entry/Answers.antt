use Rattle.laws_simulation.proofs.EntriesHold.{at_entry_law}
use Rattle.laws_simulation.proofs.invariants.law_at_entry.Goals as goal

pub returns : goal.returns
returns c = at_entry_law
