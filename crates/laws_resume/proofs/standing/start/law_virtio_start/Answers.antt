use Rattle.laws_resume.proofs.StartsStand.{virtio_start_law}
use Rattle.laws_resume.proofs.standing.start.law_virtio_start.Goals as goal

pub returns : goal.returns
returns c = virtio_start_law
