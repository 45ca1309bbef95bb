use Rattle.laws_simulation.proofs.StateLawsHold.{bytes_law}
use Rattle.laws_simulation.proofs.invariants.law_bytes.Goals as goal

pub returns : goal.returns
returns c = bytes_law
