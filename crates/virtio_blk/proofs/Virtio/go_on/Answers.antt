use Rattle.std.proofs.Common.{length}
use Rattle.virtio_blk.proofs.Virtio.go_on.Goals as goal

pub make-requires-clause-on_disk : goal.make-requires-clause-on_disk
make-requires-clause-on_disk c = c.take_move.ensures.disk (length c.args.self.now.bytes) c.requires.on_disk

pub make-requires-clause-made : goal.make-requires-clause-made
make-requires-clause-made c = c.in-Some.ensures.made (length c.args.self.now.bytes) c.requires.on_disk
