use Rattle.std.proofs.Common.{◌≤◌, ◌-◌, length}
use Rattle.hw_platform.proofs.Batches.{FirstFree}
use Rattle.hw_platform.proofs.batch_turns.are_free.Given as goal

abbrev pub invariant-slots : goal.invariant-slots
invariant-slots l = record {
  few : l.seen ≤ length l.slots;
  free : FirstFree l.slots l.seen;
}

abbrev pub decreases-slots : goal.decreases-slots
decreases-slots l = length l.slots - l.seen
