use Rattle.spec_reference.specs.Start.{boot_start, virtio_start}
use Rattle.laws_resume.proofs.BootDigests.{block_boot, virtio_boot}
use Rattle.cli_snap.proofs.OneRun.{snap_and_resume_law}
use Rattle.cli_snap.proofs.resume.laws.law_snap_and_resume.Goals as goal

pub returns-clause-block : goal.returns-clause-block
returns-clause-block c = snap_and_resume_law boot_start block_boot

pub returns-clause-virtio : goal.returns-clause-virtio
returns-clause-virtio c = snap_and_resume_law virtio_start virtio_boot
