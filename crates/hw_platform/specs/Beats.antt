-- What a device moves, and where. This project's own.
use Rattle.std.specs.Prelude.{◌+◌, ◌≤◌, ℕ, List, length, map}
use Rattle.spec_processor.specs.Bytes.{ram_base, ram_offset}
use Rattle.spec_hardware.specs.Machine.{Machine, forgets}
use Rattle.dma_guard.specs.declared.port.DmaStep.{DmaStep}

-- so many bytes lie in RAM
pub record LiesInRam (ram : List ℕ) (gpa n : ℕ) : Type 0 where
  pub first : ram_base ≤ gpa
  pub last : ram_offset gpa + n ≤ length ram

-- what is told of a move that writes lies in RAM
abbrev pub ToldInRam : List ℕ → DmaStep → Type 0
ToldInRam ram (DmaStep.Wrote gpa n) = LiesInRam ram gpa n
ToldInRam ram _ = Unit {0}

-- the reservations that a move's write touches are cleared
unfoldable pub told_cleared : Machine → DmaStep → Machine
told_cleared m (DmaStep.Wrote gpa n) = record m { harts = map (forgets (length m.region.tables + ram_offset gpa) n) m.harts }
told_cleared m DmaStep.Idle = m
told_cleared m (DmaStep.Read gpa) = m
told_cleared m (DmaStep.Denied gpa) = m
told_cleared m DmaStep.Range = m
