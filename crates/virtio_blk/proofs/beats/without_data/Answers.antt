use Rattle.std.proofs.Common.{ℕ, List, ap, arith}
use Rattle.spec_reference.specs.VirtioDevice.{Request}
use Rattle.sv_types.specs.declared.virtio.VirtioMove.{VirtioMove}
use Rattle.virtio_blk.proofs.Places.{last_all, without_data_moves, without_data_placed}
use Rattle.virtio_blk.proofs.beats.without_data.Goals as goal
use Rattle.sv_types.specs.declared.virtio.VirtioResult.{VirtioResult}

refused_with : (n : ℕ) (moves : List VirtioMove) → Request
refused_with n moves = record { moves = moves; result = VirtioResult.Failed; written = n }

pub returns-clause-request : goal.returns-clause-request
unfolding refused_with
returns-clause-request c = λ accepted.
    let q = c.args.request.now in
    ap (refused_with q.written) (without_data_moves accepted q (last_all accepted q c.requires.first))

pub returns-clause-placed : goal.returns-clause-placed
returns-clause-placed c = without_data_placed c.args.request.now c.requires.placed c.requires.first

pub returns-clause-on_disk : goal.returns-clause-on_disk
returns-clause-on_disk c = λ disk_size before. absurd (omega (arith, before))
