use Rattle.std.proofs.Common.{◌∙◌, arith, sym}
use Rattle.hw_platform.proofs.Batches.{none_first, one_more_free}
use Rattle.hw_platform.proofs.batch_turns.are_free.Goals as goal

pub slots-init : goal.slots-init
slots-init c = record { few = omega arith; free = none_first c.args.slots.now }

pub slots-preserved : goal.slots-preserved
slots-preserved c = record {
  few = omega (arith, c.slots-test.true);
  free = one_more_free c.args.slots.now c.slots.seen c.index-slots-seen.result (omega (arith, c.slots-test.true))
      (sym c.is_some.ensures ∙ c.if-is_some.false)
      c.slots.invariant.free;
}
