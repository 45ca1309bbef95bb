use Rattle.std.proofs.Common.{◌≡◌, ◌++◌, drop, length, map}
use Rattle.monitor_exits.specs.HwOfSlots.{hw_harts_of}
use Rattle.laws_resume.specs.Resuming.{hw_resumed}
use Rattle.machine.proofs.resumed.slots.slots_of.Given as goal

-- the harts so far, and those that are left
abbrev pub invariant-seated : goal.invariant-seated
invariant-seated l =
    (hw_harts_of l.slots.items ++ map (hw_resumed l.tables) (drop l.saved-index l.harts) ≡ map (hw_resumed l.tables) l.harts)
    × (length l.slots.items ≡ l.saved-index)
