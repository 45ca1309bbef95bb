use Rattle.spec_reference.specs.Start.{boot_start, virtio_start}
use Rattle.laws_resume.proofs.BootDigests.{block_boot, virtio_boot}
use Rattle.cli_snap.proofs.FileHolds.{snap_file_law, block_begins, virtio_begins}
use Rattle.cli_snap.proofs.laws.law_snap_file.Goals as goal

pub returns-clause-block : goal.returns-clause-block
returns-clause-block c = snap_file_law boot_start block_boot block_begins

pub returns-clause-virtio : goal.returns-clause-virtio
returns-clause-virtio c = snap_file_law virtio_start virtio_boot virtio_begins
