use Rattle.gdb_protocol.proofs.FrameReading.{frames_are_read}
use Rattle.gdb_protocol.proofs.laws.law_frames_are_read.Goals as goal

pub returns : goal.returns
returns c = frames_are_read
