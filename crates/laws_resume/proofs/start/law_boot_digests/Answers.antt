use Rattle.laws_resume.proofs.BootDigests.{block_boot, virtio_boot}
use Rattle.laws_resume.proofs.start.law_boot_digests.Goals as goal

pub returns-clause-block : goal.returns-clause-block
returns-clause-block c = block_boot.digests

pub returns-clause-virtio : goal.returns-clause-virtio
returns-clause-virtio c = virtio_boot.digests
