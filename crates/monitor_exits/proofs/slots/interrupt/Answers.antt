use Rattle.std.proofs.Common.{arith, sym}
use Rattle.spec_reference.specs.Calls.{mask_names}
use Rattle.monitor_exits.specs.Slots.{notified_by}
use Rattle.monitor_exits.proofs.Changes.{none_changed, next_changed, all_notified}
use Rattle.monitor_exits.proofs.slots.interrupt.Goals as goal

pub loop-i-init : goal.loop-i-init
loop-i-init c = sym (none_changed (notified_by (mask_names c.args.mask c.args.base)) c.args.slots.now)

pub loop-i-preserved : goal.loop-i-preserved
loop-i-preserved c =
    rw (c.notify.ensures, c.is_named-named.ensures, c.loop-i.invariant)
    (next_changed (notified_by (mask_names c.args.mask c.args.base)) c.loop-i.i c.args.slots.now c.index-slots-i.result c.loop-i-test.true)

pub returns-clause-hw_all : goal.returns-clause-hw_all
returns-clause-hw_all c =
    rw (c.loop-i.invariant) (all_notified (mask_names c.args.mask c.args.base) 0 c.loop-i.i c.args.slots.now (omega arith))
