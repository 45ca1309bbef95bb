use Rattle.std.proofs.Common.{◌-◌, length, arith}
use Rattle.secvisor_core.proofs.LastWhole.{placed_item}
use Rattle.secvisor_core.proofs.boot.segments.put_owner.Goals as goal

pub put_piece-requires-clause-placed : goal.put_piece-requires-clause-placed
put_piece-requires-clause-placed c =
    let some = c.if-owner-gt0.true in
    let within = c.requires.owner in
    placed_item (length c.args.mem.now.ram) c.args.segments.now (c.args.owner - 1) _ (omega arith) c.requires.placed
