use Rattle.std.proofs.Common.{length}
use Rattle.virtio_blk.proofs.Virtio.to_memory.Goals as goal

pub keep-requires-in-Err-Protected-clause-on_disk : goal.keep-requires-in-Err-Protected-clause-on_disk
keep-requires-in-Err-Protected-clause-on_disk c = c.without_data.ensures.on_disk (length c.args.self.now.bytes)
