use Rattle.gdb_protocol.proofs.FrameReading.{plain_frames}
use Rattle.gdb_protocol.proofs.laws.law_plain_frames.Goals as goal

pub returns : goal.returns
returns c = plain_frames
