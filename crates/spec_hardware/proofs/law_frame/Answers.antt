use Rattle.spec_hardware.proofs.Frames.{frame_law}
use Rattle.spec_hardware.proofs.law_frame.Goals as goal

pub returns : goal.returns
returns c = frame_law
