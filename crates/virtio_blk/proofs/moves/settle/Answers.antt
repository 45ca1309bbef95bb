use Rattle.std.proofs.Common.{◌≡◌, ℕ, ◌+◌, ◌<◌, ◌≤◌, refl, sym, subst, arith}
use Rattle.spec_reference.specs.VirtioStates.{part_at, last_place}
use Rattle.virtio_blk.specs.Held.{IsPlaced, IsSame}
use Rattle.virtio_blk.proofs.Places.{passed_placed, passed_same}
use Rattle.virtio_blk.proofs.moves.settle.Goals as goal

pub loop-index-preserved : goal.loop-index-preserved
loop-index-preserved c =
    let q = c.loop-index.q in
    let kept = c.loop-index.invariant in
    let there = kept.there in
    let ends = kept.ends in
    let test = c.loop-index-test.true in
    let before : q.part < last_place q = omega (arith, there, ends, test) in
    let reached : q.offset ≤ (part_at q q.part).len = kept.placed.offset before in
    let over : (part_at q q.part).len ≤ q.offset = subst (λ (k : ℕ). (part_at q k).len ≤ q.offset) (sym there) c.if-q-index.false in
    let all : q.offset ≡ (part_at q q.part).len = omega (arith, reached, over) in
    record {
      there = refl;
      ends = ends;
      placed = subst (λ (n : ℕ). IsPlaced (record q { part = n + 1; offset = 0 })) there (passed_placed q kept.placed before);
      same = subst (λ (n : ℕ). IsSame c.args.q.now (record q { part = n + 1; offset = 0 })) there (passed_same c.args.q.now q kept.same kept.placed before all);
    }
