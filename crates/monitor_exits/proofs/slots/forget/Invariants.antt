use Rattle.std.proofs.Common.{◌≡◌}
use Rattle.monitor_exits.specs.Slots.{slot_after_write, first_changed}
use Rattle.monitor_exits.proofs.slots.forget.Given as goal

abbrev pub invariant-loop-slot : goal.invariant-loop-slot
invariant-loop-slot l = l.slots ≡ first_changed (λ h. slot_after_write l.hpa l.width) 0 l.slot-index l.initial.slots
