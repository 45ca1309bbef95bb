use Rattle.std.proofs.Common.{ℕ, sym, subst}
use Rattle.virtio_blk.specs.Held.{IsOnDisk}
use Rattle.virtio_blk.proofs.Virtio.to_disk.Goals as goal

pub keep-requires-clause-on_disk : goal.keep-requires-clause-on_disk
keep-requires-clause-on_disk c = subst (λ (n : ℕ). IsOnDisk n c.args.request.now) (sym c.keep_bytes.ensures.size) c.requires.on_disk
