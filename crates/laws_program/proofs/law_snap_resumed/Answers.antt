use Rattle.spec_reference.specs.Start.{boot_start, virtio_start}
use Rattle.laws_resume.proofs.BootDigests.{block_boot, virtio_boot}
use Rattle.cli_snap.proofs.FileHolds.{block_begins, virtio_begins}
use Rattle.laws_program.proofs.SnapResumed.{snap_resumed_law}
use Rattle.laws_program.proofs.law_snap_resumed.Goals as goal

pub returns-clause-block : goal.returns-clause-block
returns-clause-block c = snap_resumed_law boot_start block_boot block_begins

pub returns-clause-virtio : goal.returns-clause-virtio
returns-clause-virtio c = snap_resumed_law virtio_start virtio_boot virtio_begins
