use Rattle.virtio_blk.proofs.Places.{last_left_more}
use Rattle.virtio_blk.proofs.moves.take_last.Goals as goal

pub returns-clause-rest : goal.returns-clause-rest
returns-clause-rest c = last_left_more c.args.accepted c.args.q.now
