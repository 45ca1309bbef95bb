use Rattle.std.proofs.Common.{◌≡◌}
use Rattle.spec_reference.specs.VirtioStates.{last_place}
use Rattle.virtio_blk.specs.Held.{IsPlaced, IsSame}
use Rattle.virtio_blk.proofs.moves.settle.Given as goal

abbrev pub invariant-loop-index : goal.invariant-loop-index
invariant-loop-index l = record {
  there : l.q.part ≡ l.index;
  ends : l.index-end ≡ last_place l.q;
  placed : IsPlaced l.q;
  same : IsSame l.initial.q l.q;
}
