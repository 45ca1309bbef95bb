use Rattle.gdb_protocol.proofs.FrameReading.{noise}
use Rattle.gdb_protocol.proofs.laws.law_noise.Goals as goal

pub returns : goal.returns
returns c = noise
