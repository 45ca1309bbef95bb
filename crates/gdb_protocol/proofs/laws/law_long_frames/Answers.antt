use Rattle.gdb_protocol.proofs.FrameReading.{long_frames}
use Rattle.gdb_protocol.proofs.laws.law_long_frames.Goals as goal

pub returns : goal.returns
returns c = long_frames
