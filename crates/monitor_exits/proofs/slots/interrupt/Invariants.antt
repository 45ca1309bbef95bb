use Rattle.std.proofs.Common.{◌≡◌}
use Rattle.spec_reference.specs.Calls.{mask_names}
use Rattle.monitor_exits.specs.Slots.{notified_by, first_changed}
use Rattle.monitor_exits.proofs.slots.interrupt.Given as goal

abbrev pub invariant-loop-i : goal.invariant-loop-i
invariant-loop-i l = l.slots ≡ first_changed (notified_by (mask_names l.mask l.base)) 0 l.i l.initial.slots
