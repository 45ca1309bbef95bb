use Rattle.std.proofs.Common.{◌≡◌, ◌≤◌, length}
use Rattle.monitor_exits.specs.HwOfSlots.{hw_harts_of}
use Rattle.laws_resume.specs.Starts.{hw_harts_at_boot}
use Rattle.machine.proofs.start.slots_at_boot.Given as goal

-- the harts so far
abbrev pub invariant-seated : goal.invariant-seated
invariant-seated l = (hw_harts_of l.slots.items ≡ hw_harts_at_boot l.counter l.entry) × ((length l.slots.items ≡ l.counter) × (1 ≤ l.counter))
