use Rattle.std.proofs.Common.{◌≡◌, ◌++◌, drop}
use Rattle.monitor_exits.specs.HwOfSlots.{hw_harts_of}
use Rattle.machine.specs.Keeping.{kept_harts}
use Rattle.machine.proofs.saved.saved_harts.Given as goal

-- the harts so far, and those that are left
abbrev pub invariant-saved : goal.invariant-saved
invariant-saved l =
    l.harts.items ++ kept_harts l.tables l.devices.clock l.h (hw_harts_of (drop l.h l.slots)) ≡ kept_harts l.tables l.devices.clock 0 (hw_harts_of l.slots)
