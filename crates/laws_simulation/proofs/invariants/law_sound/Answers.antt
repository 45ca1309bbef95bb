use Rattle.laws_simulation.proofs.StateLawsHold.{sound_law}
use Rattle.laws_simulation.proofs.invariants.law_sound.Goals as goal

pub returns : goal.returns
returns c = sound_law
