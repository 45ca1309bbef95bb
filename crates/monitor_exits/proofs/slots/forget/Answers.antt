use Rattle.std.proofs.Common.{arith, sym}
use Rattle.monitor_exits.specs.Slots.{slot_after_write}
use Rattle.monitor_exits.proofs.Changes.{none_changed, next_changed, all_forgotten}
use Rattle.monitor_exits.proofs.slots.forget.Goals as goal

pub loop-slot-init : goal.loop-slot-init
loop-slot-init c = sym (none_changed (λ h. slot_after_write c.args.hpa c.args.width) c.args.slots.now)

pub loop-slot-preserved : goal.loop-slot-preserved
loop-slot-preserved c =
    rw (c.forget_one.ensures, c.loop-slot.invariant)
    (next_changed (λ h. slot_after_write c.args.hpa c.args.width) c.loop-slot.slot-index c.args.slots.now c.slot-item.result c.loop-slot-test.true)

pub returns-clause-hw_all : goal.returns-clause-hw_all
returns-clause-hw_all c =
    rw (c.loop-slot.invariant) (all_forgotten c.args.hpa c.args.width 0 c.loop-slot.slot-index c.args.slots.now (omega arith))
