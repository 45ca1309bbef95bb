use Rattle.spec_reference.specs.Start.{boot_start, virtio_start}
use Rattle.laws_resume.proofs.BootDigests.{block_boot, virtio_boot}
use Rattle.laws_resume.proofs.SnapHolds.{snap_accepted_law}
use Rattle.laws_resume.proofs.start.law_snap_accepted.Goals as goal

pub returns-clause-block : goal.returns-clause-block
returns-clause-block c = snap_accepted_law boot_start block_boot

pub returns-clause-virtio : goal.returns-clause-virtio
returns-clause-virtio c = snap_accepted_law virtio_start virtio_boot
