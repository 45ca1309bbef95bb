use Rattle.std.proofs.Common.{◌≡◌, ◌-◌}
use Rattle.arrayvec.specs.ArrayVec.{array_vec_len}
use Rattle.spec_reference.specs.VirtioChain.{chain, max_parts}
use Rattle.virtio_blk.proofs.Chains.{before}
use Rattle.virtio_blk.proofs.chain.read_chain.Given as goal

abbrev pub invariant-loop-place : goal.invariant-loop-place
invariant-loop-place l = record {
  filled : array_vec_len l.parts ≡ l.place;
  chained : before l.parts.items (chain (max_parts - l.place) l.ram l.table l.size l.index) ≡ chain max_parts l.ram l.table l.size l.head;
}
