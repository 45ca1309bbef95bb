use Rattle.laws_resume.proofs.ResumedSoundHolds.{resumed_goes_on_law}
use Rattle.laws_resume.proofs.law_resumed_goes_on.Goals as goal

pub returns : goal.returns
returns c = resumed_goes_on_law
