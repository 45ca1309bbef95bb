use Rattle.laws_resume.proofs.ResumedSoundHolds.{resumed_sound_law}
use Rattle.laws_resume.proofs.law_resumed_sound.Goals as goal

pub returns : goal.returns
returns c = resumed_sound_law
